-- Lists of numbers, and tests over lists.
use Rattle.std.specs.Prelude.{ℕ, zero, suc, Bool, true, false, cond, not, ◌&&◌, ◌||◌, List, [], ◌∷◌, ◌++◌, Some, None, Option, ◌==◌, nat_eq}

-- the k numbers from i on
abbrev pub up_from : ℕ → ℕ → List ℕ
up_from zero i = []
up_from (suc k) i = i ∷ up_from k (suc i)

-- 0, 1 .. n - 1
abbrev pub below : ℕ → List ℕ
below n = up_from n 0

-- some element passes
abbrev pub any_of : {A : Type 0} → (A → Bool) → List A → Bool
any_of f [] = false
any_of f (x ∷ xs) = let rest = any_of f xs in f x || rest

-- every element passes
abbrev pub all_of : {A : Type 0} → (A → Bool) → List A → Bool
all_of f [] = true
all_of f (x ∷ xs) = let rest = all_of f xs in f x && rest

-- the elements that pass, in their order
abbrev pub keep : {A : Type 0} → (A → Bool) → List A → List A
keep f [] = []
keep f (x ∷ xs) = cond (f x) (x ∷ keep f xs) (keep f xs)

-- what f gives for each element, one list after the other
abbrev pub joined : {A B : Type 0} → (A → List B) → List A → List B
joined f [] = []
joined f (x ∷ xs) = f x ++ joined f xs

-- the first element that passes
abbrev pub first : {A : Type 0} → (A → Bool) → List A → Option A
first f [] = None
first f (x ∷ xs) = let rest = first f xs in cond (f x) (Some x) rest

abbrev pub is_in : ℕ → List ℕ → Bool
is_in x xs = any_of (λ y. nat_eq x y) xs

abbrev pub without : ℕ → List ℕ → List ℕ
without x xs = keep (λ y. not (x == y)) xs

abbrev pub is_empty : {A : Type 0} → List A → Bool
is_empty [] = true
is_empty (x ∷ xs) = false

-- no element stands twice
abbrev pub different : List ℕ → Bool
different [] = true
different (x ∷ xs) = not (is_in x xs) && different xs
