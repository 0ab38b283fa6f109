-- The order of tests of a cabling, and the relations.
use Rattle.std.proofs.Common.{◌≡◌, ℕ, suc, ◌+◌, ◌*◌, ◌/◌, ◌%◌, ◌<◌, ◌≤◌, Bool, true, false, cond, ◌||◌, eqb, ltb, leb, ◌⊎◌, List, [], ◌∷◌, length, get_or, Some, None, Option, sym, refl, ap, ◌∙◌, subst, inl, inr, arith, MatchOption}
use Rattle.std.proofs.lemmas.Bool.{or_cases, or_parts, eqb-true, eqb-false, ltb-true, ltb-false, leb-true, leb-false, cases_eq}
use Rattle.model.specs.Refusals.{Refusal}
use Rattle.model.specs.Cabling.{bad_switch_count, bad_end_list, missing_end, equal_ends, link_refusal, Joins, Counted, Cabled, FirstAtFault, Refused, switches, list, missing, equal, CablingExact}

abbrev AllJoin : ℕ → List ℕ → ℕ → Type 0
AllJoin n ends k = (j : ℕ) → j < k → Joins n ends j

one_more : (n : ℕ) (ends : List ℕ) (i : ℕ) → AllJoin n ends i → Joins n ends i → AllJoin n ends (i + 1)
one_more n ends i before here j h = elim (cases_eq j i) [ inl e ↦ subst (λ (k : ℕ). Joins n ends k) (sym e) here | inr ne ↦ before j (omega (arith, ne)) ]

-- the links from i on, where those before it join
links : (n : ℕ) (ends rest : List ℕ) (i : ℕ) → Counted n ends → length rest + 2 * i ≡ length ends
    → ((k : ℕ) → get_or rest k 0 ≡ get_or ends (2 * i + k) 0) → AllJoin n ends i
    → MatchOption (link_refusal n i rest) (AllJoin n ends (length ends / 2)) (Refused n ends)
links n ends [] i counted size at before = λ j h. before j (omega arith)
links n ends (a ∷ []) i counted size at before = absurd (omega (arith, counted.paired))
links n ends (a ∷ (b ∷ rest)) i counted size at before = by (leb n a || leb n b) refl (λ fine. links n ends rest (i + 1) counted (omega arith) shifted (one_more n ends i before fine))
  where
    first_end : a ≡ get_or ends (2 * i) 0
    first_end = at 0 ∙ ap (λ (k : ℕ). get_or ends k 0) (omega arith)

    second_end : b ≡ get_or ends (2 * i + 1) 0
    second_end = at 1

    shifted : (k : ℕ) → get_or rest k 0 ≡ get_or ends (2 * (i + 1) + k) 0
    shifted k = at (suc (suc k)) ∙ ap (λ (m : ℕ). get_or ends m 0) (omega arith)

    here : FirstAtFault n ends i
    here = record { counted = counted; there = omega arith; before = before }

    same : (q : Bool) → eqb a b ≡ q → leb n a ≡ false → leb n b ≡ false
        → (Joins n ends i → MatchOption (link_refusal n (i + 1) rest) (AllJoin n ends (length ends / 2)) (Refused n ends))
        → MatchOption (cond q (Some (equal_ends i)) (link_refusal n (i + 1) rest)) (AllJoin n ends (length ends / 2)) (Refused n ends)
    same true e x y on = equal i here (omega (arith, leb-false n a x, first_end)) (omega (arith, eqb-true a b e, first_end, second_end))
    same false e x y on =
        on (record {
          from = omega (arith, leb-false n a x, first_end);
          to = omega (arith, leb-false n b y, second_end);
          apart = λ z. eqb-false a b e (omega (arith, z, first_end, second_end));
        })

    outside : (leb n a ≡ true) ⊎ (leb n b ≡ true) → (n ≤ get_or ends (2 * i) 0) ⊎ (n ≤ get_or ends (2 * i + 1) 0)
    outside (inl x) = inl (omega (arith, leb-true n a x, first_end))
    outside (inr y) = inr (omega (arith, leb-true n b y, second_end))

    by : (p : Bool) → (leb n a || leb n b) ≡ p
        → (Joins n ends i → MatchOption (link_refusal n (i + 1) rest) (AllJoin n ends (length ends / 2)) (Refused n ends))
        → MatchOption (cond p (Some (missing_end i)) (cond (eqb a b) (Some (equal_ends i)) (link_refusal n (i + 1) rest))) (AllJoin n ends (length ends / 2)) (Refused n ends)
    by true e on = missing i here (outside (or_cases (leb n a) (leb n b) e))
    by false e on = let o = or_parts (leb n a) (leb n b) e in same (eqb a b) refl o.0 o.1 on

-- what is said of all links is said of the cabling
cased : (n : ℕ) (ends : List ℕ) (r : Option Refusal) → Counted n ends → MatchOption r (AllJoin n ends (length ends / 2)) (Refused n ends) → MatchOption r (Cabled n ends) (Refused n ends)
cased n ends None counted all = record { counted = counted; joined = all }
cased n ends (Some r) counted why = why

pub cabling_exact_lem : CablingExact
cabling_exact_lem n ends = by (ltb n 2 || ltb 32 n) refl
  where
    miscounted : (eqb (length ends % 2) 1 ≡ true) ⊎ ((eqb (length ends) 0 || ltb 128 (length ends)) ≡ true) → Counted n ends → ⊥
    miscounted (inl e) c = omega (arith, eqb-true (length ends % 2) 1 e, c.paired)
    miscounted (inr e) c = elim (or_cases (eqb (length ends) 0) (ltb 128 (length ends)) e) [
      | inl z ↦ omega (arith, eqb-true (length ends) 0 z, c.some)
      | inr l ↦ omega (arith, ltb-true 128 (length ends) l, c.short)
    ]

    counts : 2 ≤ n → n ≤ 32 → (eqb (length ends % 2) 1 || (eqb (length ends) 0 || ltb 128 (length ends))) ≡ false → Counted n ends
    counts low high e =
        let p = or_parts (eqb (length ends % 2) 1) (eqb (length ends) 0 || ltb 128 (length ends)) e in
        let q = or_parts (eqb (length ends) 0) (ltb 128 (length ends)) p.1 in
        let even : length ends % 2 ≡ 1 → ⊥ = eqb-false (length ends % 2) 1 p.0 in
        let some : length ends ≡ 0 → ⊥ = eqb-false (length ends) 0 q.0 in
        record { enough = low; few = high; paired = omega (arith, even); some = omega (arith, some); short = ltb-false 128 (length ends) q.1 }

    then : (q : Bool) → (eqb (length ends % 2) 1 || (eqb (length ends) 0 || ltb 128 (length ends))) ≡ q → 2 ≤ n → n ≤ 32
        → MatchOption (cond q (Some bad_end_list) (link_refusal n 0 ends)) (Cabled n ends) (Refused n ends)
    then true e low high = list low high (miscounted (or_cases (eqb (length ends % 2) 1) (eqb (length ends) 0 || ltb 128 (length ends)) e))
    then false e low high =
        let counted = counts low high e in
        cased n ends (link_refusal n 0 ends) counted
        (links n ends ends 0 counted (omega arith) (λ k. ap (λ (m : ℕ). get_or ends m 0) (omega arith)) (λ j h. absurd (omega arith)))

    by : (p : Bool) → (ltb n 2 || ltb 32 n) ≡ p
        → MatchOption (cond p (Some bad_switch_count) (cond (eqb (length ends % 2) 1 || (eqb (length ends) 0 || ltb 128 (length ends))) (Some bad_end_list) (link_refusal n 0 ends))) (Cabled n ends) (Refused n ends)
    by true e = switches (elim (or_cases (ltb n 2) (ltb 32 n) e) [ inl l ↦ inl (ltb-true n 2 l) | inr h ↦ inr (ltb-true 32 n h) ])
    by false e =
        let p = or_parts (ltb n 2) (ltb 32 n) e in
        then (eqb (length ends % 2) 1 || (eqb (length ends) 0 || ltb 128 (length ends))) refl (ltb-false n 2 p.0) (ltb-false 32 n p.1)
