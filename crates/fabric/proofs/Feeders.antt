-- The positions of a channel, by the channels that end at the switch that it leaves.
use Rattle.std.proofs.Common.{◌≡◌, ℕ, zero, suc, ◌+◌, ◌-◌, ◌<◌, ◌≤◌, Bool, true, false, cond, ltb, List, [], ◌∷◌, map, filter, count_by, length, Some, None, Option, ◌==◌, ◌≢◌, nat_lt, get_or, vec_items, refl}
use Rattle.std.proofs.Common.{sym, ap, subst, ◌∙◌, arith, add-one}
use Rattle.std.proofs.lemmas.List.{get_or-map, get_or_default, length-map}
use Rattle.std.proofs.lemmas.Option.{slice_get-map}
use Rattle.std.proofs.lemmas.List.Sums.{sum_by-cons}
use Rattle.std.proofs.lemmas.List.FromFn.{length-enumerate_from, get_or-enumerate_from}
use Rattle.std.proofs.lemmas.List.Elements.{All-filter, filter_passes}
use Rattle.std.proofs.lemmas.Bool.{lt-ltb, le-ltb, eqb-true}
use Rattle.std.specs.List.{slice_get, enumerate_from, All}
use Rattle.std.specs.Option.{option_map, MatchOption}
use Rattle.model.specs.Lists.{up_from, keep}
use Rattle.model.specs.Net.{Net, count, start_of, finish_of, nowhere}
use Rattle.model.specs.Positions.{Position, sender, over, feeds, positions, position_count, position_at}
use Rattle.fabric.specs.Channels.{plain, feeders}
use Rattle.fabric.specs.Of.{net}
use Rattle.fabric.specs.declared.network.Fabric.{Fabric}
use Rattle.fabric.specs.declared.channel.Channel.{Channel}

-- stands where a channel is missing
abbrev pub blank : Channel
blank = record { start = 0; finish = 0 }

-- the fabric of these channels
abbrev pub net_over : ℕ → List Channel → Net
net_over n xs = record { switches = n; channels = map plain xs }

pub count_over : (n : ℕ) (xs : List Channel) → count (net_over n xs) ≡ length xs
count_over n xs = length-map xs plain

pub finish_over : (n c : ℕ) (xs : List Channel) → c < length xs → finish_of (net_over n xs) c ≡ (get_or xs c blank).finish
finish_over n c xs h = ap (λ (x : Rattle.model.specs.Net.Channel). x.finish) (get_or-map plain xs c blank nowhere h)

-- the feeders, where the first channel has number i
abbrev pub feeders_from : ℕ → ℕ → List Channel → List ℕ
feeders_from u i xs = map (λ (p : ℕ × Channel). p.0) (filter (λ (p : ℕ × Channel). p.1.finish == u) (enumerate_from i xs))

feeders_are : (u : ℕ) (xs : List Channel) → feeders u xs ≡ feeders_from u 0 xs
unfolding feeders
feeders_are u xs = refl

map_one : {X Y : Type 0} (f : X → Y) (b : Bool) (x : X) (xs : List X) → map f (cond b (x ∷ xs) xs) ≡ cond b (f x ∷ map f xs) (map f xs)
map_one f true x xs = refl
map_one f false x xs = refl

feeders_more : (u i : ℕ) (x : Channel) (xs : List Channel) → feeders_from u i (x ∷ xs) ≡ cond (x.finish == u) (i ∷ feeders_from u (i + 1) xs) (feeders_from u (i + 1) xs)
feeders_more u i x xs = map_one (λ (p : ℕ × Channel). p.0) (x.finish == u) (i, x) (filter (λ (p : ℕ × Channel). p.1.finish == u) (enumerate_from (i + 1) xs))

-- how many there are
counted : (u i : ℕ) (xs : List Channel) → length (feeders_from u i xs) ≡ count_by (λ (x : Channel). x.finish == u) xs
counted u i [] = refl
counted u i (x ∷ xs) =
    let e : count_by (λ (y : Channel). y.finish == u) (x ∷ xs) ≡ cond (x.finish == u) 1 0 + count_by (λ (y : Channel). y.finish == u) xs = sum_by-cons (λ (y : Channel). cond (y.finish == u) 1 0) x xs in
    ap length (feeders_more u i x xs) ∙ by (x.finish == u) (counted u (i + 1) xs) ∙ sym e
  where
    by : (b : Bool) → length (feeders_from u (i + 1) xs) ≡ count_by (λ (x : Channel). x.finish == u) xs
        → length (cond b (i ∷ feeders_from u (i + 1) xs) (feeders_from u (i + 1) xs)) ≡ cond b 1 0 + count_by (λ (x : Channel). x.finish == u) xs
    by true e = omega arith
    by false e = omega arith

pub length_feeders : (u : ℕ) (xs : List Channel) → count_by (λ (x : Channel). x.finish == u) xs ≡ length (feeders u xs)
length_feeders u xs = sym (ap length (feeders_are u xs) ∙ counted u 0 xs)

-- the positions of a channel by its feeders
kept : (net : Net) (c i : ℕ) (xs : List Channel) → nat_lt c (count net) ≡ true
    → ((j : ℕ) → j < length xs → finish_of net (i + j) ≡ (get_or xs j blank).finish)
    → keep (λ x. feeds net x c) (map over (up_from (length xs) i)) ≡ map over (feeders_from (start_of net c) i xs)
kept net c i [] h at = refl
kept net c i (x ∷ xs) h at =
    let u : ℕ = start_of net c in
    let here : finish_of net i ≡ x.finish = ap (finish_of net) (omega arith) ∙ at 0 (omega arith) in
    let more : keep (λ y. feeds net y c) (map over (up_from (length xs) (i + 1))) ≡ map over (feeders_from u (i + 1) xs) =
    kept net c (i + 1) xs h (λ j l. ap (finish_of net) (omega arith) ∙ at (suc j) (omega arith)) in
    let next : keep (λ y. feeds net y c) (map over (up_from (length xs) (suc i))) ≡ map over (feeders_from u (i + 1) xs) =
    ap (λ (k : ℕ). keep (λ y. feeds net y c) (map over (up_from (length xs) k))) (sym (add-one i)) ∙ more in
    simp (h, here, next) (sym (map_one over (x.finish == u) i (feeders_from u (i + 1) xs))) ∙ sym (ap (map over) (feeders_more u i x xs))

pub positions_are : (n c : ℕ) (xs : List Channel) → c < length xs
    → positions (net_over n xs) c ≡ sender ∷ map over (feeders (start_of (net_over n xs) c) xs)
positions_are n c xs h =
    let e = count_over n xs in
    let l : ltb c (count (net_over n xs)) ≡ true = lt-ltb c (count (net_over n xs)) (omega arith) in
    let k = kept (net_over n xs) c 0 xs l (λ j m. ap (finish_of (net_over n xs)) (omega arith) ∙ finish_over n j xs m) in
    let q : keep (λ x. feeds (net_over n xs) x c) (map over (up_from (count (net_over n xs)) 0)) ≡ map over (feeders (start_of (net_over n xs) c) xs) =
    ap (λ (m : ℕ). keep (λ x. feeds (net_over n xs) x c) (map over (up_from m 0))) e ∙ k ∙ sym (ap (map over) (feeders_are (start_of (net_over n xs) c) xs)) in
    simp l (ap (λ (z : List Position). sender ∷ z) q)

-- a channel that does not exist has none
pub positions_none : (net : Net) (c : ℕ) → count net ≤ c → positions net c ≡ []
positions_none net c h = let l : ltb c (count net) ≡ false = le-ltb c (count net) h in simp l (dropped (map over (up_from (count net) 0)) l)
  where
    fed : (x : Position) → nat_lt c (count net) ≡ false → feeds net x c ≡ false
    fed sender l = l
    fed (over x) l = simp l

    dropped : (xs : List Position) → nat_lt c (count net) ≡ false → keep (λ x. feeds net x c) xs ≡ []
    dropped [] l = refl
    dropped (x ∷ xs) l = simp (fed x l, dropped xs l)

-- how many positions there are
pub count_positions : (f : Fabric) (c : ℕ) → c < count (net f) → position_count (net f) c ≡ 1 + length (feeders (start_of (net f) c) (vec_items f.channels))
count_positions f c h =
    let xs : List Channel = vec_items f.channels in
    ap length (positions_are f.switches c xs (omega (arith, count_over f.switches xs))) ∙ omega (arith, length-map (feeders (start_of (net f) c) xs) over)

pub count_none : (f : Fabric) (c : ℕ) → count (net f) ≤ c → position_count (net f) c ≡ 0
count_none f c h = ap length (positions_none (net f) c h)

pub ruleset counts = (count_positions, count_none)

-- position i
pub at_none : (f : Fabric) (c i : ℕ) → count (net f) ≤ c → position_at (net f) c i ≡ None
at_none f c i h = ap (λ (ps : List Position). slice_get ps i) (positions_none (net f) c h)

pub at_first : (f : Fabric) (c i : ℕ) → c < count (net f) → i ≡ 0 → position_at (net f) c i ≡ Some sender
at_first f c i h z =
    ap (λ (k : ℕ). position_at (net f) c k) z ∙ ap (λ (ps : List Position). slice_get ps 0) (positions_are f.switches c (vec_items f.channels) (omega (arith, count_over f.switches (vec_items f.channels))))

pub at_later : (f : Fabric) (c i : ℕ) → c < count (net f) → (i ≢ 0)
    → position_at (net f) c i ≡ option_map over (slice_get (feeders (start_of (net f) c) (vec_items f.channels)) (i - 1))
at_later f c i h z =
    let s : i ≡ suc (i - 1) = omega arith in
    let xs : List Channel = vec_items f.channels in
    ap (λ (k : ℕ). position_at (net f) c k) s
    ∙ ap (λ (ps : List Position). slice_get ps (suc (i - 1))) (positions_are f.switches c xs (omega (arith, count_over f.switches xs)))
    ∙ slice_get-map over (feeders (start_of (net f) c) xs) (i - 1)

pub ruleset places = (at_none, at_first, at_later, counts)

-- a feeder is a channel that ends at the switch
abbrev Numbered : List Channel → ℕ × Channel → Type 0
Numbered xs p = (p.0 < length xs) × (p.1 ≡ get_or xs p.0 blank)

numbered : (xs : List Channel) → All (Numbered xs) (enumerate_from 0 xs)
numbered xs k d l =
    let h : k < length xs = omega (arith, length-enumerate_from 0 xs) in
    let z : 0 + k ≡ k = omega arith in
    let e : get_or (enumerate_from 0 xs) k d ≡ (k, get_or xs k d.1) = get_or-enumerate_from 0 xs k d h ∙ ap (λ (n : ℕ). (n, get_or xs k d.1)) z in
    subst (Numbered xs) (sym e) (h, get_or_default xs k d.1 blank h)

first_at : (P : ℕ → Type 0) (ps : List (ℕ × Channel)) (k : ℕ) → All (λ (p : ℕ × Channel). P p.0) ps
    → MatchOption (slice_get (map (λ (p : ℕ × Channel). p.0) ps) k) (length (map (λ (p : ℕ × Channel). p.0) ps) ≤ k) P
first_at P [] k h = omega arith
first_at P (p ∷ ps) zero h = h 0 p (omega arith)
first_at P (p ∷ ps) (suc k) h = by (slice_get (map (λ (q : ℕ × Channel). q.0) ps) k) (first_at P ps k (λ j d l. h (suc j) d (omega arith)))
  where
    by : (o : Option ℕ) → MatchOption o (length (map (λ (q : ℕ × Channel). q.0) ps) ≤ k) P → MatchOption o (length (map (λ (q : ℕ × Channel). q.0) (p ∷ ps)) ≤ suc k) P
    by None l = omega arith
    by (Some x) q = q

pub feeder_ends : (f : Fabric) (u k : ℕ)
    → MatchOption (slice_get (feeders u (vec_items f.channels)) k) (length (feeders u (vec_items f.channels)) ≤ k) (λ x. (x < count (net f)) × (finish_of (net f) x ≡ u))
unfolding feeders
feeder_ends f u k =
    let xs : List Channel = vec_items f.channels in
    let test = λ (p : ℕ × Channel). p.1.finish == u in
    first_at (λ (x : ℕ). (x < count (net f)) × (finish_of (net f) x ≡ u)) (filter test (enumerate_from 0 xs)) k (λ j d l.
    let n = All-filter test (Numbered xs) (enumerate_from 0 xs) (numbered xs) j d l in
    let e = filter_passes test (enumerate_from 0 xs) j d l in (
      omega (arith, n.0, count_over f.switches xs),
      finish_over f.switches _ xs n.0 ∙ (ap (λ (x : Channel). x.finish) (sym n.1) ∙ eqb-true _ _ e),
    ))
