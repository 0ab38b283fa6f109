-- Pairs by their place in a table by row: one pair a place, earlier pairs at lower places, and an induction over all pairs.
use Rattle.std.proofs.Common.{◌≡◌, ℕ, zero, suc, ◌+◌, ◌*◌, ◌/◌, ◌%◌, ◌<◌, Bool, true, false, cond, not, ◌&&◌, eqb, ltb, ◌⊎◌, List, [], ◌∷◌, ◌++◌, map, sym, refl, ap, ◌∙◌, subst, inl, inr, suc-mul, arith}
use Rattle.std.proofs.lemmas.Nat.{mul-add-lt, div-mul-add, mod-mul-add}
use Rattle.std.proofs.lemmas.Bool.{and_parts, and_from, or_cases, or_left, or_right, eqb-true, ltb-true, eq-eqb, lt-ltb, not_from_false, cases_order, cases_eq}
use Rattle.model.specs.Lists.{up_from, below, keep, joined}
use Rattle.model.specs.Net.{is_pair}
use Rattle.model.specs.Routes.{Pair, pairs_of}
use Rattle.model.specs.Plans.{is_earlier}
use Rattle.model.proofs.Dependencies.{pair_parts}

-- The pair (a, b) comes before (s, d), by source and then destination.
abbrev pub Earlier : ℕ → ℕ → ℕ → ℕ → Type 0
Earlier a b s d = (a < s) ⊎ ((a ≡ s) × (b < d))

pub place_in : (n s d : ℕ) → is_pair n s d ≡ true → s * n + d < n * n
place_in n s d h = let p = pair_parts n s d h in mul-add-lt s n d n p.0 p.1

pub place_same : (n a b s d : ℕ) → is_pair n a b ≡ true → is_pair n s d ≡ true → a * n + b ≡ s * n + d → (a ≡ s) × (b ≡ d)
place_same n a b s d h k e =
    let p = (pair_parts n a b h).1 in
    let q = (pair_parts n s d k).1 in (
      sym (div-mul-add a n b p) ∙ (ap (λ (z : ℕ). z / n) e ∙ div-mul-add s n d q),
      sym (mod-mul-add a n b p) ∙ (ap (λ (z : ℕ). z % n) e ∙ mod-mul-add s n d q),
    )

-- No pair has a place on the diagonal.
pub place_apart : (n a b s : ℕ) → is_pair n a b ≡ true → s < n → a * n + b ≡ s * n + s → ⊥
place_apart n a b s h l e =
    let p = pair_parts n a b h in
    p.2 ((sym (div-mul-add a n b p.1) ∙ (ap (λ (z : ℕ). z / n) e ∙ div-mul-add s n s l))
    ∙ sym (sym (mod-mul-add a n b p.1) ∙ (ap (λ (z : ℕ). z % n) e ∙ mod-mul-add s n s l)))

pub earlier_place : (n a b s d : ℕ) → is_pair n a b ≡ true → Earlier a b s d → a * n + b < s * n + d
earlier_place n a b s d h (inl l) = let m = mul-add-lt a n b s l (pair_parts n a b h).1 in omega arith
earlier_place n a b s d h (inr (e, l)) = let m : a * n ≡ s * n = ap (λ (z : ℕ). z * n) e in omega arith

pub place_earlier : (n a b s d : ℕ) → is_pair n s d ≡ true → a * n + b < s * n + d → Earlier a b s d
place_earlier n a b s d h l =
    elim (cases_order a s) [
      | inl e ↦ let m : a * n ≡ s * n = ap (λ (z : ℕ). z * n) e in inr (e, omega arith)
      | inr r ↦
          elim r [ inl k ↦ inl k | inr k ↦ let m = mul-add-lt s n d a k (pair_parts n s d h).1 in absurd (omega arith) ]
    ]

pub earlier_told : (s d : ℕ) (p : Pair) → is_earlier s d p ≡ true → Earlier p.source p.destination s d
earlier_told s d p h =
    elim (or_cases (ltb p.source s) (eqb p.source s && ltb p.destination d) h) [
      | inl e ↦ inl (ltb-true p.source s e)
      | inr e ↦
          let q = and_parts (eqb p.source s) (ltb p.destination d) e in
          inr (eqb-true p.source s q.0, ltb-true p.destination d q.1)
    ]

pub tell_earlier : (s d : ℕ) (p : Pair) → Earlier p.source p.destination s d → is_earlier s d p ≡ true
tell_earlier s d p (inl l) = or_left (ltb p.source s) (eqb p.source s && ltb p.destination d) (lt-ltb p.source s l)
tell_earlier s d p (inr (e, l)) =
    or_right (ltb p.source s) (eqb p.source s && ltb p.destination d)
    (and_from (eqb p.source s) (ltb p.destination d) (eq-eqb p.source s e) (lt-ltb p.destination d l))

-- P holds of every pair at a place below k.
abbrev pub UpTo : ℕ → (ℕ → ℕ → Type 0) → ℕ → Type 0
UpTo n P k = (a b : ℕ) → is_pair n a b ≡ true → a * n + b < k → P a b

pub up_to_skip : (n : ℕ) (P : ℕ → ℕ → Type 0) (s : ℕ) → s < n → UpTo n P (s * n + s) → UpTo n P (suc (s * n + s))
up_to_skip n P s l done a b h k =
    elim (cases_eq (a * n + b) (s * n + s)) [ inl e ↦ absurd (place_apart n a b s h l e) | inr ne ↦ done a b h (omega arith) ]

pub up_to_more : (n : ℕ) (P : ℕ → ℕ → Type 0) (s d : ℕ) → is_pair n s d ≡ true → P s d → UpTo n P (s * n + d) → UpTo n P (suc (s * n + d))
up_to_more n P s d p here done a b h k =
    elim (cases_eq (a * n + b) (s * n + d)) [
      | inl e ↦
          let q = place_same n a b s d h p e in
          subst (λ (z : ℕ). P z b) (sym q.0) (subst (λ (z : ℕ). P s z) (sym q.1) here)
      | inr ne ↦ done a b h (omega arith)
    ]

pub up_to_none : (n : ℕ) (P : ℕ → ℕ → Type 0) → UpTo n P 0
up_to_none n P a b h k = absurd (omega arith)

pub up_to_all : (n : ℕ) (P : ℕ → ℕ → Type 0) → UpTo n P (n * n) → (a b : ℕ) → is_pair n a b ≡ true → P a b
up_to_all n P done a b h = done a b h (place_in n a b h)

-- What holds of the pairs at place k or later, if it holds of none at the end, at each place with the pair there put in front, and
-- on the diagonal without one.
module _ (n : ℕ) (G : ℕ → List Pair → Type 0)
    (skip : (s : ℕ) → s < n → (ps : List Pair) → G (suc (s * n + s)) ps → G (s * n + s) ps)
    (more : (s d : ℕ) → is_pair n s d ≡ true → (ps : List Pair) → G (suc (s * n + d)) ps
    → G (s * n + d) (record { source = s; destination = d } ∷ ps)) where
  -- The pairs from s to each of ds.
  abbrev row : ℕ → List ℕ → List Pair
  row s ds = map (λ d. record { source = s; destination = d }) (keep (λ d. not (eqb s d)) ds)

  on_row : (s : ℕ) → s < n → (ps : List Pair) → G (s * n + n) ps → (k d : ℕ) → d + k ≡ n → G (s * n + d) (row s (up_from k d) ++ ps)
  on_row s l ps g zero d e = let q : n ≡ d = omega arith in subst (λ (z : ℕ). G (s * n + z) ps) q g
  on_row s l ps g (suc k) d e =
      let q : s * n + suc d ≡ suc (s * n + d) = omega arith in
      go (subst (λ (z : ℕ). G z (row s (up_from k (suc d)) ++ ps)) q (on_row s l ps g k (suc d) (omega arith))) (eqb s d) refl
    where
      go : G (suc (s * n + d)) (row s (up_from k (suc d)) ++ ps) → (b : Bool) → eqb s d ≡ b
          → G (s * n + d)
          (map (λ d. record { source = s; destination = d })
          (cond (not b) (d ∷ keep (λ d. not (eqb s d)) (up_from k (suc d))) (keep (λ d. not (eqb s d)) (up_from k (suc d))))
          ++ ps)
      go ih true q =
          let w = eqb-true s d q in
          subst (λ (z : ℕ). G (s * n + z) (row s (up_from k (suc d)) ++ ps)) w
          (skip s l (row s (up_from k (suc d)) ++ ps)
          (subst (λ (z : ℕ). G (suc (s * n + z)) (row s (up_from k (suc d)) ++ ps)) (sym w) ih))
      go ih false q =
          let both = and_from (ltb s n) (ltb d n) (lt-ltb s n l) (lt-ltb d n (omega arith)) in
          more s d (and_from (ltb s n && ltb d n) (not (eqb s d)) both (not_from_false (eqb s d) q)) (row s (up_from k (suc d)) ++ ps) ih

  on_rows : G (n * n) [] → (k s : ℕ) → s + k ≡ n → G (s * n) (joined (λ s. row s (below n)) (up_from k s))
  on_rows g zero s e = let q : n ≡ s = omega arith in subst (λ (z : ℕ). G (z * n) []) q g
  on_rows g (suc k) s e =
      let rest = joined (λ s. row s (below n)) (up_from k (suc s)) in
      let next : G (s * n + n) rest = subst (λ (z : ℕ). G z rest) (suc-mul s n) (on_rows g k (suc s) (omega arith)) in
      let q : s * n + 0 ≡ s * n = omega arith in
      subst (λ (z : ℕ). G z (row s (below n) ++ rest)) q (on_row s (omega arith) rest next n 0 (omega arith))

  pub on_pairs_lem : G (n * n) [] → G 0 (pairs_of n)
  on_pairs_lem g = let q : 0 * n ≡ 0 = omega arith in subst (λ (z : ℕ). G z (pairs_of n)) q (on_rows g n 0 (omega arith))
