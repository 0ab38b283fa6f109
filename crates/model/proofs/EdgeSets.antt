-- Lists of edges by what they hold: whether the order of the channels is complete depends on nothing else.
use Rattle.std.proofs.Common.{◌≡◌, ℕ, zero, suc, Bool, true, false, cond, not, ◌&&◌, eqb, ◌⊎◌, List, [], ◌∷◌, ◌++◌, Some, None, Option, sym, refl, ap, ◌∙◌, inl, inr}
use Rattle.std.proofs.lemmas.Bool.{and_parts, and_from, eq-eqb, false≢true, not-false, cases_Bool}
use Rattle.model.specs.Lists.{below, first, is_in, without, is_empty}
use Rattle.model.specs.Routes.{Edge, has, chained, closed}
use Rattle.model.specs.Order.{free, rest_from, completes}
use Rattle.model.proofs.Members.{any_left, any_right, any_cases, all_of_fails}
use Rattle.model.proofs.Ordering.{free_before}
use Rattle.model.proofs.Cycles.{stuck_closed}

pub bool_same : (x y : Bool) → (x ≡ true → y ≡ true) → (y ≡ true → x ≡ true) → x ≡ y
bool_same true y f g = sym (f refl)
bool_same false true f g = g refl
bool_same false false f g = refl

-- The list holds exactly the edges that P says.
abbrev pub Exactly : (ℕ → ℕ → Type 0) → List Edge → Type 0
Exactly P es = (b c : ℕ) → (has es b c ≡ true → P b c) × (P b c → has es b c ≡ true)

abbrev pub SameEdges : List Edge → List Edge → Type 0
SameEdges es es' = (b c : ℕ) → has es b c ≡ has es' b c

pub exactly_same : (P : ℕ → ℕ → Type 0) (es es' : List Edge) → Exactly P es → Exactly P es' → SameEdges es es'
exactly_same P es es' h h' = λ b c.
    bool_same (has es b c) (has es' b c) (λ e. (h' b c).1 ((h b c).0 e)) (λ e. (h b c).1 ((h' b c).0 e))

pub exactly_from : (P Q : ℕ → ℕ → Type 0) (es : List Edge) → ((b c : ℕ) → (P b c → Q b c) × (Q b c → P b c)) → Exactly P es → Exactly Q es
exactly_from P Q es t h = λ b c. (λ e. (t b c).0 ((h b c).0 e), λ q. (h b c).1 ((t b c).1 q))

-- With more edges in front.
pub exactly_append : (P : ℕ → ℕ → Type 0) (new es : List Edge) → Exactly P es
    → Exactly (λ b c. (has new b c ≡ true) ⊎ P b c) (new ++ es)
exactly_append P new es h = λ b c.
    let is_this : Edge → Bool = λ e. eqb e.tail b && eqb e.head c in (
      λ e. elim (any_cases is_this new es e) [ inl q ↦ inl q | inr q ↦ inr ((h b c).0 q) ],
      λ q. elim q [ inl e ↦ any_left is_this new es e | inr p ↦ any_right is_this new es ((h b c).1 p) ],
    )

-- What is not free has a predecessor left.
free_fails : (es : List Edge) (rest : List ℕ) (c : ℕ) → free es rest c ≡ false
    → (p : ℕ) × (is_in p rest ≡ true) × (has es p c ≡ true)
free_fails es rest c h =
    let f = all_of_fails (λ (e : Edge). not (eqb e.head c && is_in e.tail rest)) es h in
    let t = f.0.tail in
    let both = and_parts (eqb f.0.head c) (is_in t rest) (not-false (eqb f.0.head c && is_in t rest) f.1) in
    (t, both.1, f.2 (λ e. eqb e.tail t && eqb e.head c) (and_from (eqb t t) (eqb f.0.head c) (eq-eqb t t refl) both.0))

free_fewer : (es es' : List Edge) → SameEdges es es' → (rest : List ℕ) (c : ℕ) → free es rest c ≡ true → free es' rest c ≡ true
free_fewer es es' same rest c f =
    elim (cases_Bool (free es' rest c)) [
      | inl e ↦ e
      | inr e ↦ let p = free_fails es' rest c e in absurd (free_before es rest c p.0 f (same p.0 c ∙ p.2) p.1)
    ]

free_same : (es es' : List Edge) → SameEdges es es' → (rest : List ℕ) (c : ℕ) → free es rest c ≡ free es' rest c
free_same es es' same rest c =
    bool_same (free es rest c) (free es' rest c) (free_fewer es es' same rest c) (free_fewer es' es (λ b c. sym (same b c)) rest c)

first_same : {A : Type 0} (f g : A → Bool) → ((x : A) → f x ≡ g x) → (xs : List A) → first f xs ≡ first g xs
first_same f g h [] = refl
first_same f g h (x ∷ xs) =
    ap (λ (b : Bool). cond b (Some x) (first f xs)) (h x) ∙ ap (λ (r : Option _). cond (g x) (Some x) r) (first_same f g h xs)

rest_same : (es es' : List Edge) → SameEdges es es' → (k : ℕ) (rest : List ℕ) → rest_from es k rest ≡ rest_from es' k rest
rest_same es es' same zero rest = refl
rest_same es es' same (suc k) rest =
    ap (λ (m : Option ℕ). elim m as (λ _. List ℕ) [ None ↦ rest | Some c ↦ rest_from es k (without c rest) ])
    (first_same (free es rest) (free es' rest) (free_same es es' same rest) rest)
    ∙ go (λ c. rest_same es es' same k (without c rest)) (first (free es' rest) rest)
  where
    go : ((c : ℕ) → rest_from es k (without c rest) ≡ rest_from es' k (without c rest)) → (m : Option ℕ)
        → (elim m as (λ _. List ℕ) [ None ↦ rest | Some c ↦ rest_from es k (without c rest) ])
        ≡ (elim m as (λ _. List ℕ) [ None ↦ rest | Some c ↦ rest_from es' k (without c rest) ])
    go ih None = refl
    go ih (Some c) = ih c

pub completes_same : (n : ℕ) (es es' : List Edge) → SameEdges es es' → completes n es ≡ completes n es'
completes_same n es es' same = ap is_empty (rest_same es es' same n (below n))

-- The order of channels without dependencies is complete.
pub completes_none : (n : ℕ) → completes n [] ≡ true
completes_none n =
    elim (cases_Bool (completes n [])) [ inl e ↦ e | inr e ↦ let r = stuck_closed [] n e in absurd (none r.0 r.2) ]
  where
    nowhere : (a c : ℕ) (cs : List ℕ) → chained (has []) a c cs ≡ true → ⊥
    nowhere a c [] h = false≢true h
    nowhere a c (c' ∷ cs) h = false≢true (and_parts (has [] c c') (chained (has []) a c' cs) h).0

    none : (cs : List ℕ) → closed (has []) cs ≡ true → ⊥
    none [] h = false≢true h
    none (c ∷ cs) h = nowhere c c cs h
