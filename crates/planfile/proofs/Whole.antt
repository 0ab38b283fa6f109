-- A file that passes every test is the file of what it holds.
use Rattle.std.proofs.Common.{◌≡◌, ℕ, ◌+◌, ◌-◌, ◌*◌, ◌<◌, List, ◌∷◌, ◌++◌, length, get_or, take, drop, sym, refl, ◌∙◌, arith}
use Rattle.std.proofs.lemmas.Nat.{mul-add-lt}
use Rattle.std.proofs.lemmas.List.{length-drop, length-take-le, drop_more, take_all, get_or-take, get_or-drop}
use Rattle.fabric.proofs.Cables.{cabled, starts_of}
use Rattle.model.specs.Net.{net_of}
use Rattle.model.specs.Rules.{Rule, table_rule}
use Rattle.planfile.specs.File.{entry_bytes, file_of, file_bytes, rows, hop_byte}
use Rattle.planfile.specs.Refused.{Placed, PlanFile, tag_of, length_at, switches_in, ends_in, hops_in, lane_count_in, lanes_in, hops_from, lane_from}
use Rattle.planfile.proofs.Faulty.{hops_long, lanes_long}
use Rattle.planfile.proofs.Heads.{entry_is, cut}
use Rattle.planfile.proofs.Rows.{rows_back, hop_back, lane_back}

-- each element is a byte
abbrev pub Bytes : List ℕ → Type 0
Bytes bs = (i : ℕ) → get_or bs i 0 < 256

-- a file whose contents are right is that of its three bodies
file_back : (bs link hops lane : List ℕ) → Bytes bs → Placed bs → length link ≡ length_at bs 0 → length hops ≡ length_at bs 1 → length lane ≡ length_at bs 2
    → drop 25 bs ≡ link ++ (hops ++ lane) → bs ≡ file_of link hops lane
file_back bs link hops lane small p a b c e =
    let f = p.cabled.opened.formed in
    let t = p.cabled.opened.tagged in
    let e0 : take 8 (drop 1 bs) ≡ entry_bytes (tag_of 0) 25 (length link) =
    entry_is bs 1 _ _ _ (omega (arith, f.long)) small (t 0 (omega arith)) p.cabled.placed.from (sym a) in
    let e1 : take 8 (drop 9 bs) ≡ entry_bytes (tag_of 1) (25 + length link) (length hops) =
    entry_is bs 9 _ _ _ (omega (arith, f.long)) small (t 1 (omega arith)) (omega (arith, p.hops.from, a)) (sym b) in
    let e2 : take 8 (drop 17 bs) ≡ entry_bytes (tag_of 2) (25 + length link + length hops) (length lane) =
    entry_is bs 17 _ _ _ (omega (arith, f.long)) small (t 2 (omega arith)) (omega (arith, p.lane.from, a, b)) (sym c) in
    let s0 : bs ≡ get_or bs 0 0 ∷ drop 1 bs = drop_more bs 0 0 (omega (arith, f.long)) in
    let s1 : drop 1 bs ≡ take 8 (drop 1 bs) ++ drop 9 bs = cut bs 1 8 9 refl in
    let s2 : drop 9 bs ≡ take 8 (drop 9 bs) ++ drop 17 bs = cut bs 9 8 17 refl in
    let s3 : drop 17 bs ≡ take 8 (drop 17 bs) ++ drop 25 bs = cut bs 17 8 25 refl in
    let edition = f.edition in
    cc

part_at : (bs : List ℕ) (from k n : ℕ) → k < n → get_or (take n (drop from bs)) k 0 ≡ get_or bs (from + k) 0
part_at bs from k n h = get_or-take n (drop from bs) k 0 h ∙ get_or-drop from bs k 0

part_small : (bs : List ℕ) → Bytes bs → (from k n : ℕ) → k < n → get_or (take n (drop from bs)) k 0 < 256
part_small bs small from k n h = omega (arith, part_at bs from k n h, small (from + k))

-- the rule that the two tables store
abbrev pub rule_in : List ℕ → Rule
rule_in bs = table_rule (switches_in bs) (hops_in bs) (lanes_in bs)

hops_rows : (bs : List ℕ) → Bytes bs → PlanFile bs → 0 < switches_in bs → hops_in bs ≡ rows (switches_in bs) (hop_byte (rule_in bs))
hops_rows bs small p pos =
    let n : ℕ = switches_in bs in
    let l = hops_long bs p.placed in
    rows_back n (hops_in bs) (hop_byte (rule_in bs)) pos l p.hops
    (λ u d hu hd ne. hop_back n (hops_in bs) (lanes_in bs) u d l hu hd ne (part_small bs small (hops_from bs) (u * n + d) (n * n) (mul-add-lt u n d n hu hd)))

lanes_rows : (bs : List ℕ) → PlanFile bs → 0 < switches_in bs → lanes_in bs ≡ rows (switches_in bs) (rule_in bs).lane
lanes_rows bs p pos =
    let n : ℕ = switches_in bs in
    let l = lanes_long bs p.placed in
    rows_back n (lanes_in bs) (rule_in bs).lane pos l p.lanes (λ u d hu hd ne. lane_back n (hops_in bs) (lanes_in bs) u d l hu hd ne)

-- the bodies, one after the other
bodies_back : (bs : List ℕ) → Placed bs → drop 25 bs ≡ (switches_in bs ∷ ends_in bs) ++ (hops_in bs ++ (lane_count_in bs ∷ lanes_in bs))
bodies_back bs p =
    let n : ℕ = switches_in bs in
    let a : ℕ = length_at bs 0 in
    let w = p.cabled.opened.formed.whole in
    let l1 : length_at bs 1 ≡ n * n = p.hops.size in
    let l2 : length_at bs 2 ≡ 1 + n * n = p.lane.size in
    let least = p.cabled.placed.least in
    let last : drop (lane_from bs + 1) bs ≡ lanes_in bs = sym (take_all (n * n) (drop (lane_from bs + 1) bs) (omega (arith, length-drop (lane_from bs + 1) bs))) in
    let s4 : drop (lane_from bs) bs ≡ lane_count_in bs ∷ drop (lane_from bs + 1) bs = drop_more bs (lane_from bs) 0 (omega arith) in
    let s3 : drop (hops_from bs) bs ≡ hops_in bs ++ drop (lane_from bs) bs = cut bs (hops_from bs) (n * n) (lane_from bs) (omega arith) in
    let s2 : drop 26 bs ≡ ends_in bs ++ drop (hops_from bs) bs = cut bs 26 (a - 1) (hops_from bs) (omega arith) in
    let s1 : drop 25 bs ≡ n ∷ drop 26 bs = drop_more bs 25 0 (omega arith) in
    cc

-- a plan file is the file of what it holds
pub read_back : (bs : List ℕ) → Bytes bs → PlanFile bs → bs ≡ file_bytes (net_of (switches_in bs) (ends_in bs)) (lane_count_in bs) (rule_in bs)
read_back bs small p =
    let n : ℕ = switches_in bs in
    let pl = p.placed in
    let k = (cabled n (ends_in bs) pl.cabled.sound).counted in
    let w = pl.cabled.opened.formed.whole in
    let least = pl.cabled.placed.least in
    let le : length (ends_in bs) ≡ length_at bs 0 - 1 = length-take-le (length_at bs 0 - 1) (drop 26 bs) (omega (arith, length-drop 26 bs)) in
    let lh : length (hops_in bs) ≡ length_at bs 1 = hops_long bs pl ∙ sym pl.hops.size in
    let ll : length (lane_count_in bs ∷ lanes_in bs) ≡ length_at bs 2 = omega (arith, lanes_long bs pl, pl.lane.size) in
    let pos : 0 < n = omega (arith, k.enough) in
    let file = file_back bs (n ∷ ends_in bs) (hops_in bs) (lane_count_in bs ∷ lanes_in bs) small pl (omega arith) lh ll (bodies_back bs pl) in
    let ends = starts_of (ends_in bs) k.paired in
    let hops = hops_rows bs small p pos in
    let lanes = lanes_rows bs p pos in
    cc
