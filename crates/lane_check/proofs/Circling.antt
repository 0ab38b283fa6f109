-- The way back that closes a cycle.
use Rattle.std.proofs.Common.{◌≡◌, ℕ, zero, suc, ◌+◌, ◌<◌, ◌≤◌, Bool, true, false, ◌&&◌, leb, List, [], ◌∷◌, ◌++◌, length, get_or, take, drop, set, Some, None, Option, sym, refl, ap, ◌∙◌, subst, inl, inr, add-one, arith}
use Rattle.std.proofs.lemmas.List.{append_assoc, set_at, set_split, take_more, length-take-le}
use Rattle.std.proofs.lemmas.Bool.{and_parts, and_from, both_ways, false≢true, le-leb}
use Rattle.model.specs.Lists.{is_in, different}
use Rattle.model.specs.Walks.{Walk, Fewest}
use Rattle.model.specs.Routes.{chained, is_cycle}
use Rattle.model.proofs.Members.{option_cases, is_in_cases, different_more}
use Rattle.graph.specs.Distances.{hops_to}
use Rattle.graph.specs.declared.search.Distances.{Distances}
use Rattle.lane_check.specs.declared.lane.cycle.Round.{Round}
use Rattle.lane_check.specs.Circles.{Before, Open, Rounds, Looped}

-- Where a row from a knows no channel that leads to a, no way does.
pub none_open : (e : ℕ → ℕ → Bool) (n : ℕ) (row : Distances) (a : ℕ) → ((v : ℕ) → Fewest e n a v (hops_to row v)) → a < n
    → ((b : ℕ) → b < n → e b a ≡ true → hops_to row b ≡ None) → Open e n a
none_open e n row a F h C = record { none = λ b k t bn w. subst (λ (o : Option ℕ). Fewest e n a b o) (C b bn t) (F b) h bn k w }

-- A way round that is written from its end back to the channel `at`, i edges from the first; each of its later channels is farther.
pub record Trail (e : ℕ → ℕ → Bool) (n : ℕ) (r : Round) (was is : List ℕ) (i at : ℕ) : Type 0 where
  pub tail : List ℕ
  pub here : at < n
  pub place : hops_to r.row at ≡ Some i
  pub linked : chained e r.first at tail ≡ true
  pub apart : different (at ∷ tail) ≡ true
  pub far : (x : ℕ) → is_in x tail ≡ true → (j : ℕ) → hops_to r.row x ≡ Some j → i < j
  pub size : length tail + i ≡ r.hops
  pub list : is ≡ take i was ++ ((at ∷ tail) ++ drop (r.hops + 1) was)

module _ (e : ℕ → ℕ → Bool) (n : ℕ) (r : Round) (R : Rounds e n r) where
  at_some : (v k : ℕ) → hops_to r.row v ≡ Some k → Fewest e n r.first v (Some k)
  at_some v k q = subst (λ (o : Option ℕ). Fewest e n r.first v o) q (R.row v)

  pub near : r.hops < n
  near = (at_some r.last r.hops R.closes.far).2

  -- A node one edge nearer leads to each node but the first.
  pub nearer : (v i j : ℕ) → hops_to r.row v ≡ Some i → i ≡ suc j → (b : ℕ) × Before e n r.row j v b
  nearer v i j q s =
      let f = at_some v (suc j) (q ∙ ap (λ (z : ℕ). Some z) s) in
      let w = f.3 in
      let m = w.0 in
      elim (option_cases (hops_to r.row m)) [
        | inl o ↦ absurd (subst (λ (o : Option ℕ). Fewest e n r.first m o) o (R.row m) f.0 w.1 j w.2)
        | inr k ↦
            let g = at_some m k.0 k.1 in
            let least = g.4 j w.2 in
            let most = f.4 (suc k.0) (m, w.1, g.3, w.3) in
            let same : k.0 ≡ j = omega arith in
            (m, record { inside = w.1; far = k.1 ∙ ap (λ (z : ℕ). Some z) same; leads = w.3 })
      ]

  module _ (was : List ℕ) (room : n ≤ length was) where
    pub trail_first : Trail e n r was (set was r.hops r.last) r.hops r.last
    trail_first =
        let l = near in
        record {
          tail = [];
          here = R.closes.inside;
          place = R.closes.far;
          linked = R.closes.leads;
          apart = refl;
          far = λ x i. absurd (false≢true i);
          size = omega arith;
          list = set_split was r.hops r.last (omega arith) ∙ ap (λ (k : ℕ). take r.hops was ++ (r.last ∷ drop k was)) (sym (add-one r.hops));
        }

    pub trail_more : (is : List ℕ) (i j at b : ℕ) → Trail e n r was is i at → i ≡ j + 1 → Before e n r.row j at b → Trail e n r was (set is j b) j b
    trail_more is i j at b T q B =
        let size = T.size in
        let l = near in
        record {
          tail = at ∷ T.tail;
          here = B.inside;
          place = B.far;
          linked = and_from (e b at) (chained e r.first at T.tail) B.leads T.linked;
          apart = different_more b (at ∷ T.tail) (λ m. let z = later b m j B.far in omega arith) T.apart;
          far = later;
          size = omega arith;
          list = ap (λ (xs : List ℕ). set xs j b) (T.list ∙ ap (λ (m : ℕ). take m was ++ onward) q
              ∙ ap (λ (z : List ℕ). z ++ onward) (take_more was j 0 (omega arith)) ∙ append_assoc (take j was) (get_or was j 0 ∷ []) onward)
              ∙ set_at (take j was) (get_or was j 0) onward b j (length-take-le j was (omega arith));
        }
      where
        onward : List ℕ
        onward = (at ∷ T.tail) ++ drop (r.hops + 1) was

        later : (x : ℕ) → is_in x (at ∷ T.tail) ≡ true → (k : ℕ) → hops_to r.row x ≡ Some k → j < k
        later x m k p =
            elim (is_in_cases x at T.tail m) [
              | inl s ↦
                  let o : ◌≡◌ {A = Option ℕ} (Some i) (Some k) = sym T.place ∙ ap (hops_to r.row) (sym s) ∙ p in
                  let z : i ≡ k = cc in
                  omega arith
              | inr s ↦ let z = T.far x s k p in omega arith
            ]

  pub trail_end : (was is : List ℕ) (i at : ℕ) → Trail e n r was is i at → i ≡ 0 → ((c : ℕ) → e c c ≡ false) → Looped e (r.hops + 1) was is
  trail_end was is i at T q none =
      let first : r.first ≡ at = (at_some at 0 (T.place ∙ ap (λ (z : ℕ). Some z) q)).3 in
      let linked : chained e at at T.tail ≡ true = subst (λ (z : ℕ). chained e z at T.tail ≡ true) first T.linked in
      let size = T.size in
      record {
        cycle = at ∷ T.tail;
        round = and_from (leb 2 (length (at ∷ T.tail)) && different (at ∷ T.tail)) (chained e at at T.tail)
            (and_from (leb 2 (length (at ∷ T.tail))) (different (at ∷ T.tail)) (two T.tail linked) T.apart) linked;
        size = omega arith;
        list = T.list ∙ ap (λ (m : ℕ). take m was ++ ((at ∷ T.tail) ++ drop (r.hops + 1) was)) q;
      }
    where
      two : (cs : List ℕ) → chained e at at cs ≡ true → leb 2 (length (at ∷ cs)) ≡ true
      two [] h = absurd (both_ways (e at at) (none at) h)
      two (c ∷ cs) h = le-leb 2 (length (at ∷ (c ∷ cs))) (omega arith)

-- A cycle leads from its first channel round to it.
module _ (e : ℕ → ℕ → Bool) (n : ℕ) where
  walk_cons : (c c' : ℕ) → e c c' ≡ true → c < n → (k b : ℕ) → Walk e n c' k b → Walk e n c (suc k) b
  walk_cons c c' t h zero b w = (c, h, refl, subst (λ (z : ℕ). e c z ≡ true) w t)
  walk_cons c c' t h (suc k) b w = (w.0, w.1, walk_cons c c' t h k w.0 w.2, w.3)

  round : (inside : (b c : ℕ) → e b c ≡ true → (b < n) × (c < n)) (a c : ℕ) (cs : List ℕ) → chained e a c cs ≡ true
      → (b : ℕ) × (k : ℕ) × (e b a ≡ true) × (b < n) × Walk e n c k b
  round inside a c [] h = (c, 0, h, (inside c a h).0, refl)
  round inside a c (c' ∷ cs) h =
      let p = and_parts (e c c') (chained e a c' cs) h in
      let r = round inside a c' cs p.1 in
      (r.0, suc r.1, r.2, r.3, walk_cons c c' p.0 (inside c c' p.0).0 r.1 r.0 r.4)

  pub not_all_open : (inside : (b c : ℕ) → e b c ≡ true → (b < n) × (c < n)) (cs : List ℕ) → is_cycle e cs ≡ true
      → ((a : ℕ) → a < n → Open e n a) → ⊥
  not_all_open inside [] h o = false≢true h
  not_all_open inside (a ∷ cs) h o =
      let r = round inside a a cs (and_parts (leb 2 (length (a ∷ cs)) && different (a ∷ cs)) (chained e a a cs) h).1 in
      (o a (inside r.0 a r.2).1).none r.0 r.1 r.2 r.3 r.4
