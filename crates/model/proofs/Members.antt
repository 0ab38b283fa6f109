-- Lists: what some or all elements pass, what `first`, `keep`, `joined` and `without` hold, the numbers below n, lists without repeats.
use Rattle.std.proofs.Common.{◌≡◌, ℕ, zero, suc, ◌+◌, ◌<◌, ◌≤◌, Bool, true, false, cond, not, ◌&&◌, ◌||◌, eqb, ltb, ◌⊎◌, List, [], ◌∷◌, ◌++◌, map, length, get_or, Some, None, Option, sym, refl, ap, ◌∙◌, subst, inl, inr, arith}
use Rattle.std.proofs.lemmas.Bool.{and_parts, and_from, and_cases, or_cases, or_left, or_right, eqb-true, eqb-false, eq-eqb, lt-ltb, both_ways, false≢true, not-true, not_from_false, cases_Bool, cases_eq}
use Rattle.model.specs.Lists.{up_from, below, any_of, all_of, first, is_in, keep, joined, without, is_empty, different}

-- Options.
pub none_some : {A : Type 0} {P : Type 0} (x : A) → None ≡ Some x → P
none_some x e = let z : ◌≡◌ {A = ℕ} 0 1 = cc in absurd (omega arith)

pub Some-inj : {A : Type 0} (x y : A) → Some x ≡ Some y → x ≡ y
Some-inj x y e = cc

pub option_cases : {A : Type 0} (m : Option A) → (m ≡ None) ⊎ ((x : A) × (m ≡ Some x))
option_cases None = inl refl
option_cases (Some x) = inr (x, refl)

-- Members.
pub is_in_here : (x : ℕ) (xs : List ℕ) → is_in x (x ∷ xs) ≡ true
is_in_here x xs = or_left (eqb x x) (is_in x xs) (eq-eqb x x refl)

pub is_in_there : (x y : ℕ) (xs : List ℕ) → is_in x xs ≡ true → is_in x (y ∷ xs) ≡ true
is_in_there x y xs h = or_right (eqb x y) (is_in x xs) h

pub is_in_cases : (x y : ℕ) (ys : List ℕ) → is_in x (y ∷ ys) ≡ true → (x ≡ y) ⊎ (is_in x ys ≡ true)
is_in_cases x y ys h = elim (or_cases (eqb x y) (is_in x ys) h) [ inl e ↦ inl (eqb-true x y e) | inr e ↦ inr e ]

pub is_in_at : (x y : ℕ) (ys : List ℕ) → x ≡ y → is_in x (y ∷ ys) ≡ true
is_in_at x y ys e = or_left (eqb x y) (is_in x ys) (eq-eqb x y e)

pub not_in : (x : ℕ) (xs : List ℕ) → (is_in x xs ≡ true → ⊥) → is_in x xs ≡ false
not_in x xs n = elim (cases_Bool (is_in x xs)) [ inl e ↦ absurd (n e) | inr e ↦ e ]

pub is_empty_nil : {A : Type 0} (xs : List A) → is_empty xs ≡ true → xs ≡ []
is_empty_nil [] e = refl
is_empty_nil (x ∷ xs) e = absurd (false≢true e)

-- Some element passes.
pub any_left : {A : Type 0} (g : A → Bool) (xs ys : List A) → any_of g xs ≡ true → any_of g (xs ++ ys) ≡ true
any_left g [] ys h = absurd (false≢true h)
any_left g (x ∷ xs) ys h =
    elim (or_cases (g x) (any_of g xs) h) [
      | inl e ↦ or_left (g x) (any_of g (xs ++ ys)) e
      | inr e ↦ or_right (g x) (any_of g (xs ++ ys)) (any_left g xs ys e)
    ]

pub any_right : {A : Type 0} (g : A → Bool) (xs ys : List A) → any_of g ys ≡ true → any_of g (xs ++ ys) ≡ true
any_right g [] ys h = h
any_right g (x ∷ xs) ys h = or_right (g x) (any_of g (xs ++ ys)) (any_right g xs ys h)

pub any_cases : {A : Type 0} (g : A → Bool) (xs ys : List A) → any_of g (xs ++ ys) ≡ true → (any_of g xs ≡ true) ⊎ (any_of g ys ≡ true)
any_cases g [] ys h = inr h
any_cases g (x ∷ xs) ys h =
    elim (or_cases (g x) (any_of g (xs ++ ys)) h) [
      | inl e ↦ inl (or_left (g x) (any_of g xs) e)
      | inr e ↦ elim (any_cases g xs ys e) [ inl k ↦ inl (or_right (g x) (any_of g xs) k) | inr k ↦ inr k ]
    ]

-- An element that passes m gives one that passes g.
pub any_joined : {A B : Type 0} (g : B → Bool) (f : A → List B) (m : A → Bool) (xs : List A)
    → any_of m xs ≡ true → ((x : A) → m x ≡ true → any_of g (f x) ≡ true) → any_of g (joined f xs) ≡ true
any_joined g f m [] h t = absurd (false≢true h)
any_joined g f m (x ∷ xs) h t =
    elim (or_cases (m x) (any_of m xs) h) [
      | inl e ↦ any_left g (f x) (joined f xs) (t x e)
      | inr e ↦ any_right g (f x) (joined f xs) (any_joined g f m xs e t)
    ]

pub any_keep : {A : Type 0} (m t : A → Bool) (xs : List A)
    → any_of m xs ≡ true → ((x : A) → m x ≡ true → t x ≡ true) → any_of m (keep t xs) ≡ true
any_keep m t [] h s = h
any_keep m t (x ∷ xs) h s = go (λ e. any_keep m t xs e s) (t x) refl (or_cases (m x) (any_of m xs) h)
  where
    go : (any_of m xs ≡ true → any_of m (keep t xs) ≡ true) → (b : Bool) → t x ≡ b → (m x ≡ true) ⊎ (any_of m xs ≡ true)
        → any_of m (cond b (x ∷ keep t xs) (keep t xs)) ≡ true
    go ih true q r = elim r [ inl e ↦ or_left (m x) (any_of m (keep t xs)) e | inr e ↦ or_right (m x) (any_of m (keep t xs)) (ih e) ]
    go ih false q r = elim r [ inl e ↦ absurd (both_ways (t x) q (s x e)) | inr e ↦ ih e ]

pub any_map : {A B : Type 0} (g : B → Bool) (f : A → B) (m : A → Bool) (xs : List A)
    → any_of m xs ≡ true → ((x : A) → m x ≡ true → g (f x) ≡ true) → any_of g (map f xs) ≡ true
any_map g f m [] h t = h
any_map g f m (x ∷ xs) h t =
    elim (or_cases (m x) (any_of m xs) h) [
      | inl e ↦ or_left (g (f x)) (any_of g (map f xs)) (t x e)
      | inr e ↦ or_right (g (f x)) (any_of g (map f xs)) (any_map g f m xs e t)
    ]

-- One that passes has a place.
pub any_at : {A : Type 0} (d : A) (f : A → Bool) (xs : List A) → any_of f xs ≡ true
    → (i : ℕ) × (i < length xs) × (f (get_or xs i d) ≡ true) × ((g : A → Bool) → g (get_or xs i d) ≡ true → any_of g xs ≡ true)
any_at d f [] h = absurd (false≢true h)
any_at d f (x ∷ xs) h =
    elim (or_cases (f x) (any_of f xs) h) [
      | inl e ↦ (zero, omega arith, e, λ g q. or_left (g x) (any_of g xs) q)
      | inr e ↦ let r = any_at d f xs e in (suc r.0, omega arith, r.2, λ g q. or_right (g x) (any_of g xs) (r.3 g q))
    ]

-- Every element passes.
pub all_of_any : {A : Type 0} (f g : A → Bool) (xs : List A) → all_of f xs ≡ true → any_of g xs ≡ true → (x : A) × (f x ≡ true) × (g x ≡ true)
all_of_any f g [] a h = absurd (false≢true h)
all_of_any f g (y ∷ ys) a h =
    let parts = and_parts (f y) (all_of f ys) a in
    elim (or_cases (g y) (any_of g ys) h) [ inl e ↦ (y, parts.0, e) | inr k ↦ all_of_any f g ys parts.1 k ]

pub all_of_at : (f : ℕ → Bool) (xs : List ℕ) → all_of f xs ≡ true → (x : ℕ) → is_in x xs ≡ true → f x ≡ true
all_of_at f xs a x h =
    let r = all_of_any f (λ y. eqb x y) xs a h in subst (λ (z : ℕ). f z ≡ true) (sym (eqb-true x r.0 r.2)) r.1

pub all_from : (f : ℕ → Bool) (xs : List ℕ) → ((x : ℕ) → is_in x xs ≡ true → f x ≡ true) → all_of f xs ≡ true
all_from f [] h = refl
all_from f (x ∷ xs) h = and_from (f x) (all_of f xs) (h x (is_in_here x xs)) (all_from f xs (λ y i. h y (is_in_there y x xs i)))

pub all_append : {A : Type 0} (g : A → Bool) (xs ys : List A) → all_of g xs ≡ true → all_of g ys ≡ true → all_of g (xs ++ ys) ≡ true
all_append g [] ys h k = k
all_append g (x ∷ xs) ys h k =
    let p = and_parts (g x) (all_of g xs) h in and_from (g x) (all_of g (xs ++ ys)) p.0 (all_append g xs ys p.1 k)

pub all_joined : {A B : Type 0} (g : B → Bool) (f : A → List B) (t : A → Bool) (xs : List A)
    → all_of t xs ≡ true → ((x : A) → t x ≡ true → all_of g (f x) ≡ true) → all_of g (joined f xs) ≡ true
all_joined g f t [] a h = refl
all_joined g f t (x ∷ xs) a h =
    let p = and_parts (t x) (all_of t xs) a in all_append g (f x) (joined f xs) (h x p.0) (all_joined g f t xs p.1 h)

pub all_map : {A B : Type 0} (g : B → Bool) (f : A → B) (t : A → Bool) (xs : List A)
    → all_of t xs ≡ true → ((x : A) → t x ≡ true → g (f x) ≡ true) → all_of g (map f xs) ≡ true
all_map g f t [] a h = refl
all_map g f t (x ∷ xs) a h =
    let p = and_parts (t x) (all_of t xs) a in and_from (g (f x)) (all_of g (map f xs)) (h x p.0) (all_map g f t xs p.1 h)

pub all_keep : {A : Type 0} (g t : A → Bool) (xs : List A) → all_of g xs ≡ true → all_of (λ x. g x && t x) (keep t xs) ≡ true
all_keep g t [] h = refl
all_keep g t (x ∷ xs) h = let p = and_parts (g x) (all_of g xs) h in go p.0 (all_keep g t xs p.1) (t x) refl
  where
    go : g x ≡ true → all_of (λ x. g x && t x) (keep t xs) ≡ true → (b : Bool) → t x ≡ b
        → all_of (λ x. g x && t x) (cond b (x ∷ keep t xs) (keep t xs)) ≡ true
    go e ih true q = and_from (g x && t x) (all_of (λ x. g x && t x) (keep t xs)) (and_from (g x) (t x) e q) ih
    go e ih false q = ih

-- A test that not all pass fails at one of them.
pub all_of_fails : {A : Type 0} (f : A → Bool) (xs : List A) → all_of f xs ≡ false
    → (x : A) × (f x ≡ false) × ((g : A → Bool) → g x ≡ true → any_of g xs ≡ true)
all_of_fails f [] h = absurd (false≢true (sym h))
all_of_fails f (y ∷ ys) h =
    elim (and_cases (f y) (all_of f ys) h) [
      | inl e ↦ (y, e, λ g q. or_left (g y) (any_of g ys) q)
      | inr e ↦ let r = all_of_fails f ys e in (r.0, r.1, λ g q. or_right (g y) (any_of g ys) (r.2 g q))
    ]

-- Where an element of joined lists comes from, if all pass t.
pub joined_from : {A B : Type 0} (g : B → Bool) (f : A → List B) (t : A → Bool) (xs : List A)
    → all_of t xs ≡ true → any_of g (joined f xs) ≡ true
    → (x : A) × (t x ≡ true) × (any_of g (f x) ≡ true)
joined_from g f t [] a h = absurd (false≢true h)
joined_from g f t (x ∷ xs) a h =
    let p = and_parts (t x) (all_of t xs) a in
    elim (any_cases g (f x) (joined f xs) h) [ inl e ↦ (x, p.0, e) | inr e ↦ joined_from g f t xs p.1 e ]

-- The first element that passes.
pub first_passes : {A : Type 0} (f : A → Bool) (xs : List A) (x : A) → first f xs ≡ Some x → f x ≡ true
first_passes {A} f [] x e = none_some x e
first_passes {A} f (y ∷ ys) x e = go (first_passes f ys x) (f y) refl e
  where
    go : (first f ys ≡ Some x → f x ≡ true) → (b : Bool) → f y ≡ b → cond b (Some y) (first f ys) ≡ Some x → f x ≡ true
    go ih true h e' = subst (λ (z : A). f z ≡ true) (Some-inj y x e') h
    go ih false h e' = ih e'

pub first_in : (f : ℕ → Bool) (xs : List ℕ) (x : ℕ) → first f xs ≡ Some x → is_in x xs ≡ true
first_in f [] x e = none_some x e
first_in f (y ∷ ys) x e = go (first_in f ys x) (f y) e
  where
    go : (first f ys ≡ Some x → is_in x ys ≡ true) → (b : Bool) → cond b (Some y) (first f ys) ≡ Some x → is_in x (y ∷ ys) ≡ true
    go ih true e' = is_in_at x y ys (sym (Some-inj y x e'))
    go ih false e' = is_in_there x y ys (ih e')

pub first_none : (f : ℕ → Bool) (xs : List ℕ) → first f xs ≡ None → (x : ℕ) → is_in x xs ≡ true → f x ≡ false
first_none f [] e x i = absurd (false≢true i)
first_none f (y ∷ ys) e x i = go (first_none f ys) (f y) refl e
  where
    go : (first f ys ≡ None → (x : ℕ) → is_in x ys ≡ true → f x ≡ false)
        → (b : Bool) → f y ≡ b → cond b (Some y) (first f ys) ≡ None → f x ≡ false
    go ih true q e' = none_some y (sym e')
    go ih false q e' = elim (is_in_cases x y ys i) [ inl k ↦ subst (λ (z : ℕ). f z ≡ false) (sym k) q | inr k ↦ ih e' x k ]

pub first_before : (f : ℕ → Bool) (k i x : ℕ) → first f (up_from k i) ≡ Some x → (j : ℕ) → i ≤ j → j < x → f j ≡ false
first_before f zero i x e j lo hi = none_some x e
first_before f (suc k) i x e j lo hi = go (first_before f k (suc i) x) (f i) refl e
  where
    go : (first f (up_from k (suc i)) ≡ Some x → (j : ℕ) → suc i ≤ j → j < x → f j ≡ false)
        → (b : Bool) → f i ≡ b → cond b (Some i) (first f (up_from k (suc i))) ≡ Some x → f j ≡ false
    go ih true q e' = let w = Some-inj i x e' in absurd (omega arith)
    go ih false q e' = elim (cases_eq i j) [ inl w ↦ subst (λ (z : ℕ). f z ≡ false) w q | inr ne ↦ ih e' j (omega arith) hi ]

-- The numbers from i on, and those below n.
pub is_in-up_from : (k i x : ℕ) → i ≤ x → x < i + k → is_in x (up_from k i) ≡ true
is_in-up_from zero i x lo hi = let z : ⊥ = omega arith in absurd z
is_in-up_from (suc k) i x lo hi =
    elim (cases_Bool (eqb x i)) [
      | inl e ↦ or_left (eqb x i) (is_in x (up_from k (suc i))) e
      | inr e ↦ is_in_there x i (up_from k (suc i)) (is_in-up_from k (suc i) x (omega (arith, eqb-false x i e)) (omega arith))
    ]

pub up_from_in : (k i x : ℕ) → is_in x (up_from k i) ≡ true → (i ≤ x) × (x < i + k)
up_from_in zero i x h = absurd (false≢true h)
up_from_in (suc k) i x h =
    elim (is_in_cases x i (up_from k (suc i)) h) [
      | inl e ↦ (omega arith, omega arith)
      | inr r ↦ let q = up_from_in k (suc i) x r in (omega arith, omega arith)
    ]

pub length-up_from : (k i : ℕ) → length (up_from k i) ≡ k
length-up_from zero i = refl
length-up_from (suc k) i = ap suc (length-up_from k (suc i))

pub is_in_below : (n x : ℕ) → x < n → is_in x (below n) ≡ true
is_in_below n x h = is_in-up_from n 0 x (omega arith) (omega arith)

pub below_in : (n x : ℕ) → is_in x (below n) ≡ true → x < n
below_in n x h = let q = up_from_in n 0 x h in omega arith

pub all_below : (n : ℕ) → all_of (λ x. ltb x n) (below n) ≡ true
all_below n = all_from (λ x. ltb x n) (below n) (λ x i. lt-ltb x n (below_in n x i))

-- Lists without repeats.
pub different_more : (x : ℕ) (xs : List ℕ) → (is_in x xs ≡ true → ⊥) → different xs ≡ true → different (x ∷ xs) ≡ true
different_more x xs n d = and_from (not (is_in x xs)) (different xs) (not_from_false (is_in x xs) (not_in x xs n)) d

pub different_parts : (x : ℕ) (xs : List ℕ) → different (x ∷ xs) ≡ true → (is_in x xs ≡ true → ⊥) × (different xs ≡ true)
different_parts x xs d =
    let p = and_parts (not (is_in x xs)) (different xs) d in (both_ways (is_in x xs) (not-true (is_in x xs) p.0), p.1)

-- What stands in the middle stands nowhere else.
pub different_mid : (x : ℕ) (xs ys : List ℕ) → different (xs ++ (x ∷ ys)) ≡ true → (is_in x xs ≡ true → ⊥) × (is_in x ys ≡ true → ⊥)
different_mid x [] ys d = (false≢true, (different_parts x ys d).0)
different_mid x (z ∷ xs) ys d =
    let p = different_parts z (xs ++ (x ∷ ys)) d in
    let r = different_mid x xs ys p.1 in (
      λ i. elim (is_in_cases x z xs i) [
        | inl e ↦ p.0 (any_right (λ y. eqb z y) xs (x ∷ ys) (is_in_at z x ys (sym e)))
        | inr k ↦ r.0 k
      ],
      r.1,
    )

-- What f gives differs only where the elements do.
pub map_from : (f : ℕ → ℕ) (u : ℕ) (cs : List ℕ) → is_in u (map f cs) ≡ true
    → (x : ℕ) × (pre : List ℕ) × (post : List ℕ) × (cs ≡ pre ++ (x ∷ post)) × (f x ≡ u)
map_from f u [] i = absurd (false≢true i)
map_from f u (c ∷ cs) i =
    elim (is_in_cases u (f c) (map f cs) i) [
      | inl e ↦ (c, [], cs, refl, sym e)
      | inr k ↦ let r = map_from f u cs k in (r.0, c ∷ r.1, r.2, ap (λ (z : List ℕ). c ∷ z) r.3, r.4)
    ]

pub different_map : (f : ℕ → ℕ) (cs : List ℕ) → different (map f cs) ≡ true → different cs ≡ true
different_map f [] d = refl
different_map f (c ∷ cs) d =
    let p = different_parts (f c) (map f cs) d in
    different_more c cs
    (λ i. p.0 (any_map (λ y. eqb (f c) y) f (λ y. eqb c y) cs i (λ x e. eq-eqb (f c) (f x) (ap f (eqb-true c x e)))))
    (different_map f cs p.1)

pub different_up_from : (k i : ℕ) → different (up_from k i) ≡ true
different_up_from zero i = refl
different_up_from (suc k) i =
    different_more i (up_from k (suc i)) (λ h. let q = up_from_in k (suc i) i h in omega arith) (different_up_from k (suc i))

-- The others than c.
pub without_in : (c : ℕ) (xs : List ℕ) (x : ℕ) → is_in x xs ≡ true → (x ≡ c → ⊥) → is_in x (without c xs) ≡ true
without_in c [] x i n = i
without_in c (y ∷ ys) x i n = go (λ k. without_in c ys x k n) (eqb c y) refl
  where
    go : (is_in x ys ≡ true → is_in x (without c ys) ≡ true) → (b : Bool) → eqb c y ≡ b
        → is_in x (cond (not b) (y ∷ without c ys) (without c ys)) ≡ true
    go ih true q = elim (is_in_cases x y ys i) [ inl e ↦ absurd (n (e ∙ sym (eqb-true c y q))) | inr k ↦ ih k ]
    go ih false q =
        elim (is_in_cases x y ys i) [ inl e ↦ is_in_at x y (without c ys) e | inr k ↦ is_in_there x y (without c ys) (ih k) ]

pub without_from : (c : ℕ) (xs : List ℕ) (x : ℕ) → is_in x (without c xs) ≡ true → (is_in x xs ≡ true) × (x ≡ c → ⊥)
without_from c [] x i = absurd (false≢true i)
without_from c (y ∷ ys) x i = go (without_from c ys x) (eqb c y) refl i
  where
    go : (is_in x (without c ys) ≡ true → (is_in x ys ≡ true) × (x ≡ c → ⊥)) → (b : Bool) → eqb c y ≡ b
        → is_in x (cond (not b) (y ∷ without c ys) (without c ys)) ≡ true → (is_in x (y ∷ ys) ≡ true) × (x ≡ c → ⊥)
    go ih true q i' = let r = ih i' in (is_in_there x y ys r.0, r.1)
    go ih false q i' =
        elim (is_in_cases x y (without c ys) i') [
          | inl e ↦ (is_in_at x y ys e, λ w. eqb-false c y q (sym w ∙ e))
          | inr k ↦ let r = ih k in (is_in_there x y ys r.0, r.1)
        ]

pub without_most : (c : ℕ) (xs : List ℕ) → length (without c xs) ≤ length xs
without_most c [] = omega arith
without_most c (y ∷ ys) = go (without_most c ys) (eqb c y)
  where
    go : length (without c ys) ≤ length ys → (b : Bool) → length (cond (not b) (y ∷ without c ys) (without c ys)) ≤ length (y ∷ ys)
    go ih true = omega arith
    go ih false = omega arith

pub without_fewer : (c : ℕ) (xs : List ℕ) → is_in c xs ≡ true → length (without c xs) < length xs
without_fewer c [] i = absurd (false≢true i)
without_fewer c (y ∷ ys) i = go (without_fewer c ys) (without_most c ys) (eqb c y) refl i
  where
    go : (is_in c ys ≡ true → length (without c ys) < length ys) → length (without c ys) ≤ length ys → (b : Bool) → eqb c y ≡ b
        → (b || is_in c ys) ≡ true → length (cond (not b) (y ∷ without c ys) (without c ys)) < length (y ∷ ys)
    go ih m true q i' = omega arith
    go ih m false q i' = omega (arith, ih i')

without_same : (c : ℕ) (xs : List ℕ) → (is_in c xs ≡ true → ⊥) → without c xs ≡ xs
without_same c [] n = refl
without_same c (y ∷ ys) n = go (without_same c ys (λ i. n (is_in_there c y ys i))) (eqb c y) refl
  where
    go : without c ys ≡ ys → (b : Bool) → eqb c y ≡ b → cond (not b) (y ∷ without c ys) (without c ys) ≡ y ∷ ys
    go ih true q = absurd (n (or_left (eqb c y) (is_in c ys) q))
    go ih false q = ap (λ (z : List ℕ). y ∷ z) ih

-- Of different elements, one less is left, and these are different.
abbrev OneLess : List ℕ → List ℕ → Type 0
OneLess xs less = (different less ≡ true) × (length xs ≡ suc (length less))

pub without_one : (c : ℕ) (xs : List ℕ) → different xs ≡ true → is_in c xs ≡ true → OneLess xs (without c xs)
without_one c [] d i = absurd (false≢true i)
without_one c (y ∷ ys) d i = go (different_parts y ys d) (without_one c ys (different_parts y ys d).1) (eqb c y) refl i
  where
    go : (is_in y ys ≡ true → ⊥) × (different ys ≡ true) → (is_in c ys ≡ true → OneLess ys (without c ys))
        → (b : Bool) → eqb c y ≡ b → (b || is_in c ys) ≡ true → OneLess (y ∷ ys) (cond (not b) (y ∷ without c ys) (without c ys))
    go p ih true q i' =
        let e : without c ys ≡ ys = without_same c ys (subst (λ (z : ℕ). is_in z ys ≡ true → ⊥) (sym (eqb-true c y q)) p.0) in
        subst (λ (z : List ℕ). OneLess (y ∷ ys) z) (sym e) (p.1, refl)
    go p ih false q i' =
        let r = ih i' in (different_more y (without c ys) (λ j. p.0 (without_from c ys y j).0) r.0, ap suc r.1)
