-- Going round: a grant is to one that passes, and each grant to another position brings the mark nearer.
use Rattle.std.proofs.Common.{◌≡◌, ℕ, zero, suc, ◌+◌, ◌-◌, ◌<◌, Bool, true, false, cond, ltb, ◌⊎◌, Some, Option, refl, ◌∙◌, inl, inr, arith}
use Rattle.std.proofs.lemmas.Bool.{cond-true, cond-false, lt-ltb, le-ltb, cases_lt, both_ways}
use Rattle.model.specs.Run.{after, first_from}
use Rattle.model.proofs.Members.{none_some}

-- d positions on from i, going round k
pub onward : ℕ → ℕ → ℕ → ℕ
onward k zero i = i
onward k (suc d) i = onward k d (after k i)

after_last : (k j : ℕ) → suc j ≡ k → after k j ≡ 0
after_last k j e = cond-false (ltb (j + 1) k) (j + 1) 0 (le-ltb (j + 1) k (omega arith))

after_more : (k j : ℕ) → suc j < k → after k j ≡ suc j
after_more k j h = cond-true (ltb (j + 1) k) (j + 1) 0 (lt-ltb (j + 1) k (omega arith)) ∙ omega arith

pub after_below : (k j : ℕ) → j < k → after k j < k
after_below k j h = elim (cases_lt (suc j) k) [ inl q ↦ rw (after_more k j q) q | inr q ↦ rw (after_last k j (omega arith)) (omega arith) ]

up : (k d i : ℕ) → i + d < k → onward k d i ≡ i + d
unfolding onward
up k zero i h = omega arith
up k (suc d) i h = rw (after_more k i (omega arith)) (up k d (suc i) (omega arith) ∙ omega arith)

wrap : (k d i : ℕ) → i + suc d ≡ k → onward k (suc d) i ≡ 0
unfolding onward
wrap k zero i h = after_last k i (omega arith)
wrap k (suc d) i h = rw (after_more k i (omega arith)) (wrap k d (suc i) (omega arith))

onward_add : (k a b i : ℕ) → onward k (a + b) i ≡ onward k b (onward k a i)
unfolding onward
onward_add k zero b i = let q : 0 + b ≡ b = omega arith in rw q
onward_add k (suc a) b i = let q : suc a + b ≡ suc (a + b) = omega arith in rw q (onward_add k a b (after k i))

-- Every position is reached from every other.
pub round_trip : (k i j : ℕ) → i < k → j < k → (d : ℕ) × (d < k) × (onward k d i ≡ j)
round_trip k i j hi hj =
    elim (cases_lt j i) [
      | inl q ↦ ((k - i) + j, omega arith, onward_add k (k - i) j i ∙ rw back (up k j 0 (omega arith) ∙ omega arith))
      | inr q ↦ (j - i, omega arith, up k (j - i) i (omega arith) ∙ omega arith)
    ]
  where
    back : onward k (k - i) i ≡ 0
    back = let q : k - i ≡ suc (k - suc i) = omega arith in rw q (wrap k (k - suc i) i (omega arith))

-- What is found from i where j, which passes, is d positions on: j, or one that brings the mark nearer to j.
abbrev pub Found : (ℕ → Bool) → ℕ → ℕ → ℕ → Option ℕ → Type 0
Found f k d j o = (p : ℕ) × (o ≡ Some p) × ((p ≡ j) ⊎ ((e : ℕ) × (e < d) × (onward k e (after k p) ≡ j)))

here : (n d k i j : ℕ) (f : ℕ → Bool) (b : Bool) → f i ≡ b → onward k d i ≡ j → f j ≡ true
    → ((e : ℕ) → d ≡ suc e → Found f k e j (first_from f k (after k i) n)) → Found f k d j (cond b (Some i) (first_from f k (after k i) n))
unfolding onward
here n zero k i j f true e r p ih = (i, refl, inl r)
here n (suc d) k i j f true e r p ih = (i, refl, inr (d, omega arith, r))
here n zero k i j f false e r p ih = absurd (both_ways (f i) e (rw (← r) at p))
here n (suc d) k i j f false e r p ih =
    let w = ih d refl in
    (w.0, w.1, elim w.2 [ inl q ↦ inl q | inr q ↦ inr (q.0, omega arith, q.2) ])

pub finds : (n d k i j : ℕ) (f : ℕ → Bool) → d < n → onward k d i ≡ j → f j ≡ true → Found f k d j (first_from f k i n)
unfolding onward
finds zero d k i j f h r p = absurd (omega arith)
finds (suc n) d k i j f h r p = here n d k i j f (f i) refl r p (λ e q. finds n e k (after k i) j f (omega arith) (rw q at r) p)

-- What is found passes.
pub found_passes : (n k i p : ℕ) (f : ℕ → Bool) → first_from f k i n ≡ Some p → f p ≡ true
found_passes zero k i p f e = none_some p e
found_passes (suc n) k i p f e = go (found_passes n k (after k i) p f) (f i) refl e
  where
    go : (first_from f k (after k i) n ≡ Some p → f p ≡ true) → (b : Bool) → f i ≡ b
        → cond b (Some i) (first_from f k (after k i) n) ≡ Some p → f p ≡ true
    go ih true q e = let z : i ≡ p = cc in rw (← z) q
    go ih false q e = ih e
