-- A completed order: it holds every channel once, no dependency runs backward in it, and every chain of dependencies ends.
use Rattle.std.proofs.Common.{◌≡◌, ℕ, zero, suc, ◌<◌, true, not, ◌&&◌, eqb, List, [], ◌∷◌, ◌++◌, length, Some, None, Option, sym, refl, ap, ◌∙◌, subst, inl, inr}
use Rattle.std.proofs.lemmas.Bool.{and_parts, and_from, eqb-true, both_ways, false≢true, not-true, cases_eq}
use Rattle.model.specs.Lists.{below, first, is_in, without, is_empty, different}
use Rattle.model.specs.Routes.{Edge, has}
use Rattle.model.specs.Order.{free, order_from, rest_from, order_of, completes}
use Rattle.model.specs.Laws.{OrderExact}
use Rattle.model.proofs.Members.{is_in_there, is_in_at, is_in_cases, is_empty_nil, all_of_any, first_passes, first_in, is_in_below, below_in, length-up_from, different_more, different_up_from, without_in, without_from, without_one}

-- What is free has no predecessor left.
pub free_before : (es : List Edge) (rest : List ℕ) (c p : ℕ) → free es rest c ≡ true → has es p c ≡ true → is_in p rest ≡ true → ⊥
free_before es rest c p r h i =
    let found =
    all_of_any (λ (e : Edge). not (eqb e.head c && is_in e.tail rest)) (λ (e : Edge). eqb e.tail p && eqb e.head c) es r h in
    let e = found.0 in
    let ends = and_parts (eqb e.tail p) (eqb e.head c) found.2 in
    let inside : is_in e.tail rest ≡ true = subst (λ (z : ℕ). is_in z rest ≡ true) (sym (eqb-true e.tail p ends.0)) i in
    both_ways (eqb e.head c && is_in e.tail rest) (not-true (eqb e.head c && is_in e.tail rest) found.1)
    (and_from (eqb e.head c) (is_in e.tail rest) ends.1 inside)

-- The list takes all of `rest`, each when none of its predecessors is left.
pub data Takes (es : List Edge) : List ℕ → List ℕ → Type 0 where
  done : Takes es [] []
  next : {c : ℕ} {rest order : List ℕ} → is_in c rest ≡ true → free es rest c ≡ true → Takes es (without c rest) order
      → Takes es rest (c ∷ order)

module _ (es : List Edge) where
  pub takes : (k : ℕ) (rest : List ℕ) → is_empty (rest_from es k rest) ≡ true → Takes es rest (order_from es k rest)
  takes zero rest h = subst (λ (z : List ℕ). Takes es z []) (sym (is_empty_nil rest h)) done
  takes (suc k) rest h = go (λ c. takes k (without c rest)) (first (free es rest) rest) refl h
    where
      go : ((c : ℕ) → is_empty (rest_from es k (without c rest)) ≡ true → Takes es (without c rest) (order_from es k (without c rest)))
          → (m : Option ℕ) → first (free es rest) rest ≡ m
          → is_empty (elim m as (λ _. List ℕ) [ None ↦ rest | Some c ↦ rest_from es k (without c rest) ]) ≡ true
          → Takes es rest (elim m as (λ _. List ℕ) [ None ↦ [] | Some c ↦ c ∷ order_from es k (without c rest) ])
      go ih None e h' = subst (λ (z : List ℕ). Takes es z []) (sym (is_empty_nil rest h')) done
      go ih (Some c) e h' = next (first_in (free es rest) rest c e) (first_passes (free es rest) rest c e) (ih c h')

  takes_inside : (rest order : List ℕ) → Takes es rest order → (x : ℕ) → is_in x order ≡ true → is_in x rest ≡ true
  takes_inside rest [] done x i = i
  takes_inside rest (c ∷ order) (next i f t) x j =
      elim (is_in_cases x c order j) [
        | inl e ↦ subst (λ (z : ℕ). is_in z rest ≡ true) (sym e) i
        | inr k ↦ (without_from c rest x (takes_inside (without c rest) order t x k)).0
      ]

  takes_all : (rest order : List ℕ) → Takes es rest order → (x : ℕ) → is_in x rest ≡ true → is_in x order ≡ true
  takes_all rest [] done x i = i
  takes_all rest (c ∷ order) (next i f t) x j =
      elim (cases_eq x c) [
        | inl e ↦ is_in_at x c order e
        | inr n ↦ is_in_there x c order (takes_all (without c rest) order t x (without_in c rest x j n))
      ]

  takes_once : (rest order : List ℕ) → Takes es rest order → different order ≡ true
  takes_once rest [] done = refl
  takes_once rest (c ∷ order) (next i f t) =
      different_more c order (λ j. (without_from c rest c (takes_inside (without c rest) order t c j)).1 refl)
      (takes_once (without c rest) order t)

  takes_size : (rest order : List ℕ) → Takes es rest order → different rest ≡ true → length order ≡ length rest
  takes_size rest [] done d = refl
  takes_size rest (c ∷ order) (next i f t) d =
      let w = without_one c rest d i in
      ap suc (takes_size (without c rest) order t w.0) ∙ sym w.1

  takes_forward : (rest order : List ℕ) → Takes es rest order
      → (xs ys : List ℕ) (b c : ℕ) → order ≡ xs ++ (c ∷ ys) → has es b c ≡ true → is_in b rest ≡ true → is_in b xs ≡ true
  takes_forward rest [] done xs ys b c e h i = absurd (false≢true i)
  takes_forward rest (x ∷ order) (next j f t) [] ys b c e h i =
      let q : x ≡ c = cc in absurd (free_before es rest x b f (subst (λ (z : ℕ). has es b z ≡ true) (sym q) h) i)
  takes_forward rest (x ∷ order) (next j f t) (y ∷ xs) ys b c e h i =
      let q : x ≡ y = cc in
      let e' : order ≡ xs ++ (c ∷ ys) = cc in
      elim (cases_eq b x) [
        | inl w ↦ is_in_at b y xs (w ∙ q)
        | inr n ↦ is_in_there b y xs (takes_forward (without x rest) order t xs ys b c e' h (without_in x rest b i n))
      ]

  -- Every chain of dependencies from c has at most m of them.
  abbrev pub Short : ℕ → ℕ → Type 0
  Short zero c = (y : ℕ) → has es c y ≡ true → ⊥
  Short (suc m) c = (y : ℕ) → has es c y ≡ true → Short m y

  takes_short : (rest order : List ℕ) → Takes es rest order
      → ((p y : ℕ) → is_in p rest ≡ true → has es p y ≡ true → is_in y rest ≡ true) → (x : ℕ) → is_in x rest ≡ true → Short (length order) x
  takes_short rest [] done cl x i = absurd (false≢true i)
  takes_short rest (c ∷ order) (next j f t) cl x i =
      -- a successor of what is left is not c
      let onward : (p y : ℕ) → is_in p rest ≡ true → has es p y ≡ true → is_in y (without c rest) ≡ true =
      λ p y q h. without_in c rest y (cl p y q h) (λ w. free_before es rest c p f (subst (λ (z : ℕ). has es p z ≡ true) w h) q) in
      λ y h.
      takes_short (without c rest) order t (λ p z q g. onward p z (without_from c rest p q).0 g) y (onward x y i h)

pub order_takes : (n : ℕ) (es : List Edge) → completes n es ≡ true → Takes es (below n) (order_of n es)
order_takes n es s = takes es n (below n) s

order_size : (n : ℕ) (es : List Edge) → completes n es ≡ true → length (order_of n es) ≡ n
order_size n es s = takes_size es (below n) (order_of n es) (order_takes n es s) (different_up_from n 0) ∙ length-up_from n 0

pub order_exact_lem : OrderExact
order_exact_lem n es s =
    let t = order_takes n es s in
    record {
      size = order_size n es s;
      once = takes_once es (below n) (order_of n es) t;
      inside = λ c i. below_in n c (takes_inside es (below n) (order_of n es) t c i);
      all = λ c l. takes_all es (below n) (order_of n es) t c (is_in_below n c l);
      forward = λ xs ys b c e h l. takes_forward es (below n) (order_of n es) t xs ys b c e h (is_in_below n b l);
    }

-- Every dependency is between channels below n.
abbrev pub Inside : ℕ → List Edge → Type 0
Inside n es = (b c : ℕ) → has es b c ≡ true → (b < n) × (c < n)

-- Where the order is complete, every chain of dependencies between channels below n has at most n of them.
pub ways_end : (n : ℕ) (es : List Edge) → completes n es ≡ true → Inside n es → (c : ℕ) → c < n → Short es n c
ways_end n es s inside c l =
    subst (λ (m : ℕ). Short es m c) (order_size n es s)
    (takes_short es (below n) (order_of n es) (order_takes n es s) (λ p y i h. is_in_below n y (inside p y h).1) c (is_in_below n c l))
