-- A file, written part after part over a list.
use Rattle.std.proofs.Common.{◌≡◌, ℕ, ◌+◌, ◌-◌, ◌*◌, ◌<◌, ◌≤◌, List, [], ◌∷◌, ◌++◌, length, get_or, drop, set, Some, None, refl, ap, ◌∙◌, arith}
use borrow.Rule.Slice.PartMut.{put_mid}
use Rattle.std.proofs.lemmas.List.{take_at, drop_at, drop-drop, drop_more, set_at, append_assoc, length-append, length-map}
use Rattle.std.proofs.lemmas.Bool.{le-ltb, lt-ltb}
use Rattle.fabric.specs.Channels.{starts}
use Rattle.model.specs.Net.{Channel, Net, count}
use Rattle.model.specs.Refusals.{refuse, call_layer}
use Rattle.model.specs.Rules.{Rule}
use Rattle.planfile.specs.File.{file_bytes, head_bytes, hop_byte, hops_body, lane_body, link_body, rows}
use Rattle.planfile.specs.Writes.{write_refusal}
use Rattle.planfile.proofs.Rows.{length_rows}

-- one more part is written after a front
front_put : (old new f ys : List ℕ) (a k e : ℕ) → new ≡ f ++ drop a old → length f ≡ a → a + k ≡ e → put_mid a k new ys ≡ (f ++ ys) ++ drop e old
front_put old new f ys a k e q l n =
    let t = take_at f (drop a old) a l in
    let d = drop_at f (drop a old) a l in
    let r = drop-drop k a old in
    let s = append_assoc f ys (drop e old) in
    cc

-- one more byte
front_set : (old new f : List ℕ) (y a : ℕ) → new ≡ f ++ drop a old → length f ≡ a → a < length old → set new a y ≡ (f ++ y ∷ []) ++ drop (a + 1) old
front_set old new f y a q l h =
    let m = drop_more old a 0 h in
    let t = set_at f (get_or old a 0) (drop (a + 1) old) y a l in
    let s = append_assoc f (y ∷ []) (drop (a + 1) old) in
    cc

-- the writes of a file, one after the other
pub written : (old h b x y : List ℕ) (m ends s : ℕ) → length h ≡ 25 → length b ≡ 1 + ends → length x ≡ s → 26 + ends + s + 1 + s ≤ length old
    → put_mid (26 + ends + s + 1) (26 + ends + s + 1 + s - (26 + ends + s + 1))
    (set (put_mid (26 + ends) (26 + ends + s - (26 + ends)) (put_mid 25 (26 + ends - 25) (h ++ drop 25 old) b) x) (26 + ends + s) m) y
    ≡ (h ++ (b ++ (x ++ (m ∷ y)))) ++ drop (26 + ends + s + 1 + s) old
written old h b x y m ends s lh lb lx le =
    let a1 = front_put old _ h b 25 (26 + ends - 25) (26 + ends) refl lh (omega arith) in
    let f1 : List ℕ = h ++ b in
    let l1 : length f1 ≡ 26 + ends = omega (arith, length-append h b) in
    let a2 = front_put old _ f1 x (26 + ends) (26 + ends + s - (26 + ends)) (26 + ends + s) a1 l1 (omega arith) in
    let f2 : List ℕ = f1 ++ x in
    let l2 : length f2 ≡ 26 + ends + s = omega (arith, length-append f1 x) in
    let a3 = front_set old _ f2 m (26 + ends + s) a2 l2 (omega arith) in
    let f3 : List ℕ = f2 ++ m ∷ [] in
    let l3 : length f3 ≡ 26 + ends + s + 1 = omega (arith, length-append f2 (m ∷ [])) in
    let a4 =
    front_put old _ f3 y (26 + ends + s + 1) (26 + ends + s + 1 + s - (26 + ends + s + 1)) (26 + ends + s + 1 + s) a3 l3 (omega arith) in
    a4 ∙ ap (λ (z : List ℕ). z ++ drop (26 + ends + s + 1 + s) old) (one_list h b x y m)
  where
    one_list : (h b x y : List ℕ) (m : ℕ) → ((((h ++ b) ++ x) ++ m ∷ []) ++ y) ≡ h ++ (b ++ (x ++ (m ∷ y)))
    one_list h b x y m = simp append_assoc

pub length_file : (net : Net) (lanes : ℕ) (rule : Rule)
    → length (file_bytes net lanes rule) ≡ 26 + count net + net.switches * net.switches + 1 + net.switches * net.switches
length_file net lanes rule =
    let a = length-append (starts net.channels) (hops_body net rule ++ lane_body net lanes rule) in
    let b = length-append (hops_body net rule) (lane_body net lanes rule) in
    let s = length-map net.channels (λ (x : Channel). x.start) in
    omega (arith, a, b, s, length_rows net.switches (hop_byte rule), length_rows net.switches rule.lane)

-- the bytes so written are the file's
pub file_of_parts : (net : Net) (lanes : ℕ) (rule : Rule) (h b x y : List ℕ) (m : ℕ)
    → h ≡ head_bytes (length (link_body net)) (length (hops_body net rule)) (length (lane_body net lanes rule))
    → b ≡ link_body net → x ≡ hops_body net rule → m ≡ lanes → y ≡ rows net.switches rule.lane → h ++ (b ++ (x ++ (m ∷ y))) ≡ file_bytes net lanes rule
file_of_parts net lanes rule h b x y m eh eb ex em ey = cc

-- the refusals of writing
pub write_passes : (lanes file list : ℕ) → 1 ≤ lanes → lanes ≤ 8 → file ≤ list → write_refusal lanes file list ≡ None
write_passes lanes file list a b c = simp (le-ltb lanes 1 a, le-ltb 8 lanes b, le-ltb list file c)

pub write_short : (lanes file list : ℕ) → 1 ≤ lanes → lanes ≤ 8 → list < file → write_refusal lanes file list ≡ Some (refuse call_layer 13 [])
write_short lanes file list a b c = simp (le-ltb lanes 1 a, le-ltb 8 lanes b, lt-ltb list file c)
