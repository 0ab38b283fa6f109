-- The hold is the largest of 1 and the turn costs of the dependencies.
use Rattle.std.proofs.Common.{◌≡◌, ℕ, zero, suc, ◌<◌, ◌≤◌, max, Bool, true, false, ◌&&◌, ◌||◌, eqb, ◌⊎◌, List, [], ◌∷◌, sym, refl, ap, subst, inl, inr, arith}
use Rattle.std.proofs.lemmas.Bool.{and_from, or_cases, or_left, or_right, eqb-true, eq-eqb, false≢true, cases_lt}
use Rattle.model.specs.Net.{count}
use Rattle.model.specs.Positions.{position_count}
use Rattle.model.specs.Routes.{Edge, has, lane_deps}
use Rattle.model.specs.Order.{completes}
use Rattle.model.specs.Waits.{turn_cost, largest, hold_from, hold_of, hold}
use Rattle.model.specs.Laws.{HoldExact}
use Rattle.model.proofs.Dependencies.{deps_inside}
use Rattle.model.proofs.Ordering.{Short, Inside, ways_end}
use Rattle.model.proofs.Judging.{accepted_completes}

-- The largest is at least 1, at least each, and one of these.
pub largest_one : (f : ℕ → ℕ) (c : ℕ) (es : List Edge) → 1 ≤ largest f c es
largest_one f c [] = omega arith
largest_one f c (e ∷ es) = go (eqb e.tail c) (largest_one f c es)
  where
    go : (b : Bool) → 1 ≤ largest f c es → 1 ≤ (elim b as (λ _. ℕ) [ true ↦ max (f e.head) (largest f c es) | false ↦ largest f c es ])
    go true h = omega arith
    go false h = h

pub largest_least : (f : ℕ → ℕ) (c y : ℕ) (es : List Edge) → has es c y ≡ true → f y ≤ largest f c es
largest_least f c y [] h = absurd (false≢true h)
largest_least f c y (e ∷ es) h = go (largest_least f c y es) (eqb e.tail c) h
  where
    go : (has es c y ≡ true → f y ≤ largest f c es) → (b : Bool) → ((b && eqb e.head y) || has es c y) ≡ true
        → f y ≤ (elim b as (λ _. ℕ) [ true ↦ max (f e.head) (largest f c es) | false ↦ largest f c es ])
    go ih true h' =
        elim (or_cases (eqb e.head y) (has es c y) h') [
          | inl k ↦ let ef : f e.head ≡ f y = ap f (eqb-true e.head y k) in omega arith
          | inr k ↦ let l = ih k in omega arith
        ]
    go ih false h' = ih h'

abbrev Met : (ℕ → ℕ) → ℕ → List Edge → ℕ → Type 0
Met f c es m = (m ≡ 1) ⊎ ((y : ℕ) × (has es c y ≡ true) × (m ≡ f y))

pub largest_met : (f : ℕ → ℕ) (c : ℕ) (es : List Edge) → Met f c es (largest f c es)
largest_met f c [] = inl refl
largest_met f c (e ∷ es) = go (eqb e.tail c) refl (largest_met f c es)
  where
    later : (m : ℕ) → Met f c es m → Met f c (e ∷ es) m
    later m (inl q) = inl q
    later m (inr q) = inr (q.0, or_right (eqb e.tail c && eqb e.head q.0) (has es c q.0) q.1, q.2)

    go : (b : Bool) → eqb e.tail c ≡ b → Met f c es (largest f c es)
        → Met f c (e ∷ es) (elim b as (λ _. ℕ) [ true ↦ max (f e.head) (largest f c es) | false ↦ largest f c es ])
    go false q r = later (largest f c es) r
    go true q r =
        let here =
        or_left (eqb e.tail c && eqb e.head e.head) (has es c e.head)
        (and_from (eqb e.tail c) (eqb e.head e.head) q (eq-eqb e.head e.head refl)) in
        elim (cases_lt (f e.head) (largest f c es)) [
          | inl l ↦ let m : max (f e.head) (largest f c es) ≡ largest f c es = omega arith in
              subst (λ (z : ℕ). Met f c (e ∷ es) z) (sym m) (later (largest f c es) r)
          | inr l ↦ inr (e.head, here, omega arith)
        ]

-- It looks at the dependencies from c alone.
largest_most : (f g : ℕ → ℕ) (c : ℕ) (es : List Edge) → ((y : ℕ) → has es c y ≡ true → f y ≡ g y) → largest f c es ≤ largest g c es
largest_most f g c es s =
    elim (largest_met f c es) [
      | inl e ↦ let o = largest_one g c es in omega arith
      | inr r ↦ let q = s r.0 r.1 in let l = largest_least g c r.0 es r.1 in omega (arith, r.2)
    ]

largest_same : (f g : ℕ → ℕ) (c : ℕ) (es : List Edge) → ((y : ℕ) → has es c y ≡ true → f y ≡ g y) → largest f c es ≡ largest g c es
largest_same f g c es s =
    let a = largest_most f g c es s in let b = largest_most g f c es (λ y h. sym (s y h)) in omega arith

-- As many steps as the longest chain has are enough.
enough : (k : ℕ → ℕ) (es : List Edge) (m c : ℕ) → Short es m c → hold_from k es m c ≡ hold_from k es (suc m) c
enough k es zero c s = elim (largest_met (λ c'. turn_cost (k c') 1) c es) [ inl e ↦ sym e | inr r ↦ absurd (s r.0 r.1) ]
enough k es (suc m) c s =
    largest_same (λ c'. turn_cost (k c') (hold_from k es m c')) (λ c'. turn_cost (k c') (hold_from k es (suc m) c')) c es
    (λ y h. ap (turn_cost (k y)) (enough k es m y (s y h)))

pub hold_equation : (k : ℕ → ℕ) (n : ℕ) (es : List Edge) → completes n es ≡ true → Inside n es
    → (c : ℕ) → c < n → hold_of k es n c ≡ largest (λ c'. turn_cost (k c') (hold_of k es n c')) c es
hold_equation k n es s inside c l = enough k es n c (ways_end n es s inside c l)

pub hold_exact_lem : HoldExact
hold_exact_lem g a ℓ c laned l =
    let es = lane_deps g.net g.rule ℓ in
    let f : ℕ → ℕ = λ c'. turn_cost (position_count g.net c') (hold g ℓ c') in
    let e : hold g ℓ c ≡ largest f c es =
    hold_equation (position_count g.net) (count g.net) es (accepted_completes g a ℓ laned) (deps_inside g.net g.rule ℓ) c l in
    record {
      one = subst (λ (z : ℕ). 1 ≤ z) (sym e) (largest_one f c es);
      each = λ c' d. subst (λ (z : ℕ). f c' ≤ z) (sym e) (largest_least f c c' es d);
      least = subst (λ (z : ℕ). Met f c es z) (sym e) (largest_met f c es);
    }
