-- Sums, products and largest numbers, as far as 32 bits tell them.
use Rattle.std.proofs.Common.{◌≡◌, ℕ, zero, suc, ◌+◌, ◌<◌, ◌≤◌, max, Bool, true, false, cond, ltb, ◌⊎◌, List, [], ◌∷◌, sym, refl, ap, ◌∙◌, subst, inl, inr, suc-mul, zero-mul, arith}
use Rattle.std.proofs.lemmas.Bool.{cases_lt, cases_eq, both_ways, and_parts, ltb-true}
use Rattle.model.specs.Lists.{all_of}
use Rattle.model.specs.Routes.{Edge, has}
use Rattle.model.specs.Waits.{turn_cost, largest, total}
use Rattle.model.proofs.Holding.{largest_one, largest_least, largest_met}
use Rattle.patience.specs.Caps.{capped, heaviest}

pub capped_add : (a b : ℕ) → capped (capped a + b) ≡ capped (a + b)
capped_add a b = omega arith

-- a turn's cost by a hold that is only told
pub capped_turn : (k h : ℕ) → capped (turn_cost k (capped h)) ≡ capped (turn_cost k h)
capped_turn zero h = ap capped (zero-mul (capped h + 1) ∙ sym (zero-mul (h + 1)))
capped_turn (suc k) h = elim (cases_lt h 4294967295) [
  | inl l ↦ let e : capped h ≡ h = omega arith in ap (λ (x : ℕ). capped (turn_cost (suc k) x)) e
  | inr l ↦ omega (arith, suc-mul k (capped h + 1), suc-mul k (h + 1))
]

-- the largest of told numbers
heaviest_told : (f : ℕ → ℕ) (e : ℕ → Bool) (m : ℕ) → capped (heaviest f e m) ≡ heaviest (λ x. capped (f x)) e m
heaviest_told f e zero = refl
heaviest_told f e (suc m) = by (e m) (heaviest_told f e m)
  where
    by : (b : Bool) → capped (heaviest f e m) ≡ heaviest (λ x. capped (f x)) e m
        → capped (cond b (max (heaviest f e m) (f m)) (heaviest f e m))
        ≡ cond b (max (heaviest (λ x. capped (f x)) e m) (capped (f m))) (heaviest (λ x. capped (f x)) e m)
    by true ih = omega arith
    by false ih = ih

pub heaviest_same : (f g : ℕ → ℕ) (e : ℕ → Bool) (m : ℕ) → ((x : ℕ) → x < m → f x ≡ g x) → heaviest f e m ≡ heaviest g e m
heaviest_same f g e zero h = refl
heaviest_same f g e (suc m) h = by (e m) (heaviest_same f g e m (λ x l. h x (omega arith))) (h m (omega arith))
  where
    by : (b : Bool) → heaviest f e m ≡ heaviest g e m → f m ≡ g m
        → cond b (max (heaviest f e m) (f m)) (heaviest f e m) ≡ cond b (max (heaviest g e m) (g m)) (heaviest g e m)
    by true ih q = cc
    by false ih q = ih

pub heaviest_more : (f g : ℕ → ℕ) (e : ℕ → Bool) (m : ℕ) → ((x : ℕ) → x < m → f x ≡ capped (g x)) → heaviest f e m ≡ capped (heaviest g e m)
heaviest_more f g e m h = heaviest_same f (λ x. capped (g x)) e m h ∙ sym (heaviest_told g e m)

-- what the largest is
heaviest_one : (f : ℕ → ℕ) (e : ℕ → Bool) (m : ℕ) → 1 ≤ heaviest f e m
heaviest_one f e zero = omega arith
heaviest_one f e (suc m) = by (e m) (heaviest_one f e m)
  where
    by : (b : Bool) → 1 ≤ heaviest f e m → 1 ≤ cond b (max (heaviest f e m) (f m)) (heaviest f e m)
    by true ih = omega arith
    by false ih = ih

heaviest_least : (f : ℕ → ℕ) (e : ℕ → Bool) (m x : ℕ) → x < m → e x ≡ true → f x ≤ heaviest f e m
heaviest_least f e zero x l t = absurd (omega arith)
heaviest_least f e (suc m) x l t = by (e m) refl (heaviest_least f e m x) (cases_eq x m)
  where
    by : (b : Bool) → e m ≡ b → (x < m → e x ≡ true → f x ≤ heaviest f e m) → (x ≡ m) ⊎ (x ≡ m → ⊥)
        → f x ≤ cond b (max (heaviest f e m) (f m)) (heaviest f e m)
    by true q ih (inl s) = let z : f x ≡ f m = ap f s in omega arith
    by false q ih (inl s) = absurd (both_ways (e m) q (ap e (sym s) ∙ t))
    by true q ih (inr n) = let z = ih (omega (arith, n)) t in omega arith
    by false q ih (inr n) = ih (omega (arith, n)) t

heaviest_met : (f : ℕ → ℕ) (e : ℕ → Bool) (m : ℕ) → (heaviest f e m ≡ 1) ⊎ ((x : ℕ) × (e x ≡ true) × (heaviest f e m ≡ f x))
heaviest_met f e zero = inl refl
heaviest_met f e (suc m) = by (e m) refl (heaviest_met f e m)
  where
    Met : ℕ → Type 0
    Met y = (y ≡ 1) ⊎ ((x : ℕ) × (e x ≡ true) × (y ≡ f x))

    by : (b : Bool) → e m ≡ b → Met (heaviest f e m) → Met (cond b (max (heaviest f e m) (f m)) (heaviest f e m))
    by true q ih = elim (cases_lt (heaviest f e m) (f m)) [
      | inl l ↦ inr (m, q, omega arith)
      | inr l ↦ subst Met (let z : heaviest f e m ≡ max (heaviest f e m) (f m) = omega arith in z) ih
    ]
    by false q ih = ih

-- the largest over a list of dependencies is that over the channels below n, where the dependencies lie
pub largest_heaviest : (f : ℕ → ℕ) (c n : ℕ) (es : List Edge) → ((x : ℕ) → has es c x ≡ true → x < n) → largest f c es ≡ heaviest f (has es c) n
largest_heaviest f c n es inside = by (largest_met f c es) (heaviest_met f (has es c) n)
  where
    by : (largest f c es ≡ 1) ⊎ ((y : ℕ) × (has es c y ≡ true) × (largest f c es ≡ f y))
        → (heaviest f (has es c) n ≡ 1) ⊎ ((x : ℕ) × (has es c x ≡ true) × (heaviest f (has es c) n ≡ f x))
        → largest f c es ≡ heaviest f (has es c) n
    by (inl p) (inl q) = p ∙ sym q
    by (inl p) (inr q) = let z = largest_least f c q.0 es q.1 in let w = q.2 in omega (arith, heaviest_one f (has es c) n)
    by (inr p) (inl q) = let z = heaviest_least f (has es c) n p.0 (inside p.0 p.1) p.1 in let w = p.2 in omega (arith, largest_one f c es)
    by (inr p) (inr q) =
        let z = largest_least f c q.0 es q.1 in let w = q.2 in
        let y = heaviest_least f (has es c) n p.0 (inside p.0 p.1) p.1 in let v = p.2 in omega arith

-- sums of told numbers
pub total_told : (f g : ℕ → ℕ) (n a : ℕ) (cs : List ℕ) → ((c : ℕ) → c < n → f c ≡ capped (g c)) → all_of (λ c. ltb c n) cs ≡ true
    → capped (a + total f cs) ≡ capped (a + total g cs)
total_told f g n a [] h i = refl
total_told f g n a (c ∷ cs) h i =
    let q = and_parts (ltb c n) (all_of (λ x. ltb x n) cs) i in
    let e = h c (ltb-true c n q.0) in
    let ih = total_told f g n (a + f c) cs h q.1 in
    omega (arith, ih, e)
