-- What a row says before each round, and that the last round leaves the fewest edges.
use Rattle.std.proofs.Common.{◌≡◌, ℕ, zero, suc, ◌+◌, ◌<◌, ◌≤◌, Bool, true, false, List, take, length, is_none, set, replicate, Some, None, Option, IsSomeAnd, sym, refl, ◌∙◌, inl, inr, arith, add-one}
use Rattle.std.proofs.lemmas.Grind.{common_steps}
use Rattle.std.proofs.lemmas.List.{length-take}
use Rattle.std.proofs.lemmas.List.Sums.{count_by-le-length}
use Rattle.model.proofs.Members.{option_cases}
use Rattle.model.specs.Walks.{Walk}
use Rattle.graph.specs.Distances.{row_at, Blank, Row}
use Rattle.graph.specs.Rounds.{unreached, Grown}
use Rattle.graph.proofs.Relaxing.{unreached-set}

-- What a row says before round r of the search from a.
pub record Sound (e : ℕ → ℕ → Bool) (n a r : ℕ) (xs : List (Option ℕ)) : Type 0 where
  pub begun : row_at xs a ≡ Some 0
  pub bound : (v k : ℕ) → row_at xs v ≡ Some k → k ≤ r
  pub real : (v k : ℕ) → row_at xs v ≡ Some k → Walk e n a k v
  pub closed : (u v k : ℕ) → u < n → v < n → row_at xs u ≡ Some k → k < r → e u v ≡ true → IsSomeAnd (row_at xs v) (λ j. j ≤ k + 1)
  pub beyond : (v : ℕ) → n ≤ v → row_at xs v ≡ None

-- one of the n nodes is reached before the first round
pub first_count : (n a : ℕ) (xs : List (Option ℕ)) → Blank xs → a < n → n ≤ length xs → unreached (set xs a (Some 0)) n < n
first_count n a xs b h few = omega (arith, unreached-set xs a 0 n h (omega arith) (simp (b a)), count_by-le-length is_none (take n xs), length-take n xs)

pub first : (e : ℕ → ℕ → Bool) (n a : ℕ) (xs : List (Option ℕ)) → Blank xs → a < n → n ≤ length xs → Sound e n a 0 (set xs a (Some 0))
first e n a xs b h few =
    record {
      begun = grind (arith, common_steps);
      bound = λ v k q. omega (arith, zero_at v k q);
      real = λ v k q. rw ((zero_at v k q).1) (sym (zero_at v k q).0);
      closed = λ u v k hu hv q l. absurd (omega arith);
      beyond = λ v l. grind (arith, common_steps, b v);
    }
  where
    zero_at : (v k : ℕ) → row_at (set xs a (Some 0)) v ≡ Some k → (v ≡ a) × (k ≡ 0)
    zero_at v k q = grind (arith, common_steps, b v)

pub next : (e : ℕ → ℕ → Bool) (n a r : ℕ) (xs ys : List (Option ℕ)) (c : Bool) → Sound e n a r xs → Grown e n r n xs ys c → Sound e n a (r + 1) ys
next e n a r xs ys c s x =
    record {
      begun = x.stays a 0 s.begun;
      bound = bound;
      real = λ v k q. elim (option_cases (row_at xs v)) [
        | inl p ↦ let f = x.fresh v k p q in rw (f.0, add-one r) (f.1.0, f.1.1, s.real f.1.0 r f.1.2, f.1.3)
        | inr p ↦ s.real v k (grind arith)
      ];
      closed = λ u v k hu hv q l t. grind (arith, bound v, s.bound u, s.closed u v k hu hv, x.done u v hu hv);
      beyond = λ v l. x.beyond v l ∙ s.beyond v l;
    }
  where
    bound : (v k : ℕ) → row_at ys v ≡ Some k → k ≤ r + 1
    bound v k q = grind (arith, s.bound)

-- a walk to a node is at least as long as the row says, once every edge is followed
pub lower : (e : ℕ → ℕ → Bool) (n a r : ℕ) (xs : List (Option ℕ)) → Sound e n a (r + 1) xs → ((v k : ℕ) → row_at xs v ≡ Some k → k ≤ r) → (j v : ℕ) → v < n → Walk e n a j v → IsSomeAnd (row_at xs v) (λ k. k ≤ j)
lower e n a r xs s low zero v h w = rw (← w, s.begun) (omega arith)
lower e n a r xs s low (suc j) v h w =
    let ih = lower e n a r xs s low j w.0 w.1 w.2 in
    elim (option_cases (row_at xs w.0)) [
      | inl q ↦ absurd (rw q at ih)
      | inr q ↦ let k = rw q.1 at ih in let t = s.closed w.0 v q.0 w.1 h q.1 (omega (arith, low w.0 q.0 q.1)) w.3 in grind (arith, k, t)
    ]

-- a round that changes nothing is the last
pub whole : (e : ℕ → ℕ → Bool) (n a r : ℕ) (xs ys : List (Option ℕ)) → a < n → r < n → Sound e n a r xs → Grown e n r n xs ys false → Row e n a ys
whole e n a r xs ys ha hr s x v = elim (option_cases (row_at ys v)) [
  | inl q ↦ rw q (λ ha hv j w. rw q at least j hv w)
  | inr q ↦
      let p : row_at xs v ≡ Some q.0 = rw x.change at q.1 in
      let hv : v < n = grind (arith, s.beyond v) in
      rw q.1 (ha, hv, omega (arith, s.bound v q.0 p), s.real v q.0 p, λ j w. rw q.1 at least j hv w)
]
  where
    least : (j : ℕ) → v < n → Walk e n a j v → IsSomeAnd (row_at ys v) (λ k. k ≤ j)
    least j hv w = lower e n a r ys (next e n a r xs ys false s x) (λ u k q. s.bound u k (rw x.change at q)) j v hv w

pub blank_row : (m : ℕ) → Blank (replicate m None)
blank_row zero v = refl
blank_row (suc m) zero = refl
blank_row (suc m) (suc v) = blank_row m v
