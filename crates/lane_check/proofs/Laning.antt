-- From the cells of a lane to the model's dependencies, and from lane to lane.
use Rattle.std.proofs.Common.{◌≡◌, ℕ, Option, zero, suc, ◌+◌, ◌-◌, ◌*◌, ◌<◌, ◌≤◌, Bool, true, false, ◌&&◌, leb, List, [], ◌∷◌, ◌++◌, length, take, drop, Some, IsSome, sym, refl, ap, ◌∙◌, subst, mul-le-mul_right, suc-mul, add-one, arith}
use Rattle.std.proofs.lemmas.List.{append_assoc, append-nil, length-append, take_at, drop_at, drop-drop}
use Rattle.model.specs.Lists.{up_from, below, joined, different}
use Rattle.model.specs.Net.{Net, count}
use Rattle.model.specs.Rules.{Rule, Setup}
use Rattle.model.specs.Routes.{lane_deps, depends, chained, closed, is_cycle}
use Rattle.model.specs.Order.{completes, order_of, lane_order}
use Rattle.model.specs.Verdicts.{Accepts, Verdict, fine, cyclic, lanes_verdict, verdict}
use Rattle.model.proofs.Dependencies.{deps_inside}
use Rattle.model.proofs.Ordering.{order_exact_lem}
use Rattle.model.proofs.Cycles.{cycle_exact_lem}
use Rattle.model.proofs.Judging.{accepted_completes}
use Rattle.arrayvec.specs.ArrayVec.{ArrayVec}
use Rattle.routing.specs.Edges.{loopless}
use Rattle.routing.specs.Dependencies.{leads}
use Rattle.routing.specs.declared.dependencies.Dependencies.{Dependencies}
use Rattle.lane_check.specs.Answers.{Paired}
use Rattle.lane_check.specs.Circles.{Looped}
use Rattle.lane_check.specs.Orders.{Sorted}
use Rattle.lane_check.proofs.Listing.{up_from_more, up_from_none}

-- Tests that answer alike have the same cycles.
module _ (e h : ℕ → ℕ → Bool) (same : (b c : ℕ) → e b c ≡ h b c) where
  chained_same : (a c : ℕ) (cs : List ℕ) → chained e a c cs ≡ chained h a c cs
  chained_same a c [] = same c a
  chained_same a c (c' ∷ cs) =
      ap (λ (t : Bool). t && chained e a c' cs) (same c c') ∙ ap (λ (t : Bool). h c c' && t) (chained_same a c' cs)

  closed_same : (cs : List ℕ) → closed e cs ≡ closed h cs
  closed_same [] = refl
  closed_same (c ∷ cs) = chained_same c c cs

  cycle_same : (cs : List ℕ) → is_cycle e cs ≡ is_cycle h cs
  cycle_same cs = ap (λ (t : Bool). leb 2 (length cs) && different cs && t) (closed_same cs)

  pub looped_same : (k : ℕ) (was is : List ℕ) → Looped e k was is → Looped h k was is
  looped_same k was is L = record { cycle = L.cycle; round = sym (cycle_same L.cycle) ∙ L.round; size = L.size; list = L.list }

-- The dependencies of a lane have a cycle where the order takes not every channel.
pub leads_cycle : (net : Net) (rule : Rule) (ℓ : ℕ) (d : Dependencies) → d.channels ≡ count net → ((b c : ℕ) → leads d b c ≡ depends net rule ℓ b c)
    → completes d.channels (lane_deps net rule ℓ) ≡ false → (cs : List ℕ) × (is_cycle (leads d) cs ≡ true)
leads_cycle net rule ℓ d size each s =
    let es = lane_deps net rule ℓ in
    let r =
    (cycle_exact_lem (count net) es (record { inside = deps_inside net rule ℓ; apart = λ c. sym (each c c) ∙ loopless d.channels d.cells d.among c })).1
    (subst (λ (m : ℕ). completes m es ≡ false) size s) in
    (r.0, cycle_same (leads d) (depends net rule ℓ) each r.0 ∙ r.1)

-- A loop over the lanes: those below i have no cycle.
pub record Clear (g : Setup) (i : ℕ) : Type 0 where
  pub left : verdict g ≡ lanes_verdict g.net g.rule (up_from (g.lanes - i) i)

module _ (g : Setup) where
  pub clear_none : Paired g → Clear g 0
  clear_none p = record { left = p ∙ ap (λ (m : ℕ). lanes_verdict g.net g.rule (up_from m 0)) (all g.lanes) }
    where
      all : (m : ℕ) → m ≡ m - 0
      all m = omega arith

  next : (i n : ℕ) (b : Bool) → i < g.lanes → n ≡ count g.net → completes n (lane_deps g.net g.rule i) ≡ b → Clear g i
      → verdict g ≡ elim b as (λ _. Verdict) [ true ↦ lanes_verdict g.net g.rule (up_from (g.lanes - (i + 1)) (i + 1)) | false ↦ cyclic i ]
  next i n b h q s C =
      C.left ∙ ap (lanes_verdict g.net g.rule) (up_from_more (g.lanes - i) (g.lanes - (i + 1)) i (omega arith))
      ∙ ap (λ (t : Bool). elim t as (λ _. Verdict) [ true ↦ lanes_verdict g.net g.rule (up_from (g.lanes - (i + 1)) (i + 1)) | false ↦ cyclic i ])
      (ap (λ (m : ℕ). completes m (lane_deps g.net g.rule i)) (sym q) ∙ s)

  pub clear_more : (i n : ℕ) → i < g.lanes → n ≡ count g.net → completes n (lane_deps g.net g.rule i) ≡ true → Clear g i → Clear g (i + 1)
  clear_more i n h q s C = record { left = next i n true h q s C }

  pub clear_cyclic : (i n : ℕ) → i < g.lanes → n ≡ count g.net → completes n (lane_deps g.net g.rule i) ≡ false → Clear g i → verdict g ≡ cyclic i
  clear_cyclic i n h q s C = next i n false h q s C

  pub clear_all : (i : ℕ) → g.lanes ≤ i → Clear g i → verdict g ≡ fine
  clear_all i h C = C.left ∙ ap (lanes_verdict g.net g.rule) (up_from_none (g.lanes - i) i (omega arith))

-- The orders of the lanes below i stand at the front of the list.
module _ (g : Setup) where
  abbrev orders_to : ℕ → List ℕ
  orders_to i = joined (lane_order g.net g.rule) (below i)

  abbrev pub Wrote : List ℕ → ℕ → List ℕ → Type 0
  Wrote was i is = is ≡ orders_to i ++ drop (i * count g.net) was

  pub wrote_none : (was : List ℕ) → Wrote was 0 was
  wrote_none was = ap (λ (k : ℕ). drop k was) (none (count g.net))
    where
      none : (n : ℕ) → 0 ≡ 0 * n
      none n = omega arith

  joined_last : (f : ℕ → List ℕ) (k i : ℕ) → joined f (up_from (suc k) i) ≡ joined f (up_from k i) ++ f (i + k)
  joined_last f zero i = append-nil (f i) ∙ ap f (more i)
    where
      more : (i : ℕ) → i ≡ i + 0
      more i = omega arith
  joined_last f (suc k) i =
      ap (λ (z : List ℕ). f i ++ z) (joined_last f k (suc i) ∙ ap (λ (j : ℕ). joined f (up_from k (suc i)) ++ f j) (over i k))
      ∙ sym (append_assoc (f i) (joined f (up_from k (suc i))) (f (i + suc k)))
    where
      over : (i k : ℕ) → suc i + k ≡ i + suc k
      over i k = omega arith

  orders_more : (i : ℕ) → orders_to (suc i) ≡ orders_to i ++ lane_order g.net g.rule i
  orders_more i = joined_last (lane_order g.net g.rule) i 0 ∙ ap (λ (j : ℕ). orders_to i ++ lane_order g.net g.rule j) (same i)
    where
      same : (i : ℕ) → 0 + i ≡ i
      same i = omega arith

  orders_length : Accepts g → (i : ℕ) → i ≤ g.lanes → length (orders_to i) ≡ i * count g.net
  orders_length A zero h = omega arith
  orders_length A (suc i) h =
      let n : ℕ = count g.net in
      let all = orders_length A i (omega arith) in
      let one = (order_exact_lem n (lane_deps g.net g.rule i) (accepted_completes g A i h)).size in
      ap length (orders_more i) ∙ length-append (orders_to i) (lane_order g.net g.rule i) ∙ omega (arith, suc-mul i n)

  -- An accepted setup leaves no lane without its order.
  pub lane_sorted : Accepts g → (i n : ℕ) (r : Option (ArrayVec ℕ)) → i < g.lanes → n ≡ count g.net → Sorted n (lane_deps g.net g.rule i) r → IsSome r
  lane_sorted A i n r h q s = s.0 ∙ ap (λ (m : ℕ). completes m (lane_deps g.net g.rule i)) q ∙ accepted_completes g A i h

  pub sorted_order : (i n : ℕ) (r : Option (ArrayVec ℕ)) (order : ArrayVec ℕ) → n ≡ count g.net → r ≡ Some order → Sorted n (lane_deps g.net g.rule i) r
      → order.items ≡ lane_order g.net g.rule i
  sorted_order i n r order q e s = (rw e at s).1 ∙ ap (λ (m : ℕ). order_of m (lane_deps g.net g.rule i)) q

  lane_length : Accepts g → (i : ℕ) → i < g.lanes → length (lane_order g.net g.rule i) ≡ count g.net
  lane_length A i h = (order_exact_lem (count g.net) (lane_deps g.net g.rule i) (accepted_completes g A i h)).size

  pub wrote_more : (i m : ℕ) (was cur nxt part : List ℕ) → Accepts g → i < g.lanes → m ≡ count g.net → Wrote was i cur → part ≡ lane_order g.net g.rule i
      → nxt ≡ take (i * m) cur ++ (part ++ drop (i * m + length part) cur) → Wrote was (i + 1) nxt
  wrote_more i m was cur nxt part A h w e p q =
      let n : ℕ = count g.net in
      let front = orders_to i in
      let mine = lane_order g.net g.rule i in
      let len = orders_length A i (omega arith) in
      let a : take (i * n) cur ≡ front = ap (take (i * n)) e ∙ take_at front (drop (i * n) was) (i * n) len in
      let b : drop (i * n) cur ≡ drop (i * n) was = ap (drop (i * n)) e ∙ drop_at front (drop (i * n) was) (i * n) len in
      let c : drop (i * n + n) cur ≡ drop (i * n + n) was = sym (drop-drop n (i * n) cur) ∙ ap (drop n) b ∙ drop-drop n (i * n) was in
      let d : i * n + n ≡ (i + 1) * n = sym (suc-mul i n) ∙ ap (λ (z : ℕ). z * n) (sym (add-one i)) in
      q ∙ ap (λ (z : ℕ). take (i * z) cur ++ (part ++ drop (i * z + length part) cur)) w
      ∙ ap (λ (z : ℕ). take (i * n) cur ++ (part ++ drop (i * n + z) cur)) (ap length p ∙ lane_length A i h)
      ∙ ap (λ (z : List ℕ). z ++ (part ++ drop (i * n + n) cur)) a
      ∙ ap (λ (z : List ℕ). front ++ (z ++ drop (i * n + n) cur)) p
      ∙ ap (λ (z : List ℕ). front ++ (mine ++ z)) (c ∙ ap (λ (k : ℕ). drop k was) d)
      ∙ sym (append_assoc front mine (drop ((i + 1) * n) was))
      ∙ ap (λ (z : List ℕ). z ++ drop ((i + 1) * n) was) (sym (ap orders_to (add-one i) ∙ orders_more i))

  -- The part of lane i ends within the list.
  pub lane_room : (i m l : ℕ) (part : List ℕ) → Accepts g → i < g.lanes → m ≡ count g.net → part ≡ lane_order g.net g.rule i
      → g.lanes * count g.net ≤ l → i * m + length part ≤ l
  lane_room i m l part A h q p r =
      let n : ℕ = count g.net in
      let k : suc i * n ≤ g.lanes * n = mul-le-mul_right n h in
      let e : length part ≡ n = ap length p ∙ lane_length A i h in
      let f : i * m ≡ i * n = ap (λ (z : ℕ). i * z) q in
      omega (arith, suc-mul i n)
