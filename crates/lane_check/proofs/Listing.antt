-- Lists of numbers that a loop goes through, and tests over lists that are made of others.
use Rattle.std.proofs.Common.{◌≡◌, ℕ, zero, suc, ◌+◌, Bool, true, false, cond, ◌&&◌, ◌||◌, List, [], ◌∷◌, ◌++◌, map, sym, refl, ap, ◌∙◌, add-one, arith}
use Rattle.std.proofs.Math.Bool.{or_assoc}
use Rattle.model.specs.Lists.{up_from, any_of, keep, joined}

-- One number less is left, or none.
pub up_from_more : (m k i : ℕ) → m ≡ suc k → up_from m i ≡ i ∷ up_from k (i + 1)
up_from_more zero k i q = absurd (omega arith)
up_from_more (suc m) k i q =
    let z : m ≡ k = omega arith in
    ap (λ (j : ℕ). i ∷ up_from j (suc i)) z ∙ ap (λ (j : ℕ). i ∷ up_from k j) (sym (add-one i))

pub up_from_none : (m i : ℕ) → m ≡ 0 → up_from m i ≡ []
up_from_none zero i q = refl
up_from_none (suc m) i q = absurd (omega arith)

module _ {A : Type 0} where
  pub any_same : (f h : A → Bool) (xs : List A) → ((x : A) → f x ≡ h x) → any_of f xs ≡ any_of h xs
  any_same f h [] e = refl
  any_same f h (x ∷ xs) e = ap (λ (b : Bool). b || any_of f xs) (e x) ∙ ap (λ (b : Bool). h x || b) (any_same f h xs e)

  pub any_append : (f : A → Bool) (xs ys : List A) → any_of f (xs ++ ys) ≡ (any_of f xs || any_of f ys)
  any_append f [] ys = refl
  any_append f (x ∷ xs) ys = ap (λ (b : Bool). f x || b) (any_append f xs ys) ∙ sym (or_assoc (f x) (any_of f xs) (any_of f ys))

  pub any_kept : (f t : A → Bool) (xs : List A) → any_of f (keep t xs) ≡ any_of (λ x. t x && f x) xs
  any_kept f t [] = refl
  any_kept f t (x ∷ xs) = go (any_kept f t xs) (t x)
    where
      go : any_of f (keep t xs) ≡ any_of (λ x. t x && f x) xs
          → (b : Bool) → any_of f (cond b (x ∷ keep t xs) (keep t xs)) ≡ ((b && f x) || any_of (λ x. t x && f x) xs)
      go ih true = ap (λ (b : Bool). f x || b) ih
      go ih false = ih

pub any_mapped : {A B : Type 0} (f : B → Bool) (h : A → B) (xs : List A) → any_of f (map h xs) ≡ any_of (λ x. f (h x)) xs
any_mapped f h [] = refl
any_mapped f h (x ∷ xs) = ap (λ (b : Bool). f (h x) || b) (any_mapped f h xs)

pub any_of_joined : {A B : Type 0} (f : B → Bool) (h : A → List B) (xs : List A) → any_of f (joined h xs) ≡ any_of (λ x. any_of f (h x)) xs
any_of_joined f h [] = refl
any_of_joined f h (x ∷ xs) = any_append f (h x) (joined h xs) ∙ ap (λ (b : Bool). any_of f (h x) || b) (any_of_joined f h xs)
