-- The pairs at place k or later, one place after the other: what a loop over the places of a square table has left.
use Rattle.std.proofs.Common.{◌≡◌, ℕ, suc, ◌+◌, ◌-◌, ◌*◌, ◌/◌, ◌%◌, ◌<◌, ◌≤◌, cond, eqb, List, [], ◌∷◌, ◌++◌, refl, ap, ◌∙◌, arith}
use Rattle.std.proofs.lemmas.Nat.{mul-add-lt, div-mul-add, mod-mul-add}
use Rattle.std.proofs.lemmas.Bool.{cond-true, cond-false, eq-eqb, ne_eqb}
use Rattle.model.specs.Lists.{up_from, joined}
use Rattle.model.specs.Routes.{Pair, pairs_of}
use Rattle.model.specs.Pairs.{pair_of, pairs_left}
use Rattle.model.proofs.Dependencies.{pair_parts}
use Rattle.model.proofs.PairPlaces.{on_pairs_lem}

module _ (n : ℕ) where
  pub left_none : (k : ℕ) → n * n ≤ k → pairs_left n k ≡ []
  left_none k l =
      let e : n * n - k ≡ 0 = omega arith in ap (λ (z : ℕ). joined (λ j. pair_of (j / n) (j % n)) (up_from z k)) e

  pub left_more : (k : ℕ) → k < n * n → pairs_left n k ≡ pair_of (k / n) (k % n) ++ pairs_left n (suc k)
  left_more k l =
      let e : n * n - k ≡ suc (n * n - suc k) = omega arith in ap (λ (z : ℕ). joined (λ j. pair_of (j / n) (j % n)) (up_from z k)) e

  pub left_at : (s d : ℕ) → s < n → d < n → pairs_left n (s * n + d) ≡ pair_of s d ++ pairs_left n (suc (s * n + d))
  left_at s d ls ld =
      left_more (s * n + d) (mul-add-lt s n d n ls ld)
      ∙ (ap (λ (z : ℕ). pair_of z ((s * n + d) % n) ++ pairs_left n (suc (s * n + d))) (div-mul-add s n d ld)
      ∙ ap (λ (z : ℕ). pair_of s z ++ pairs_left n (suc (s * n + d))) (mod-mul-add s n d ld))

  pub pairs_left_lem : pairs_left n 0 ≡ pairs_of n
  pairs_left_lem =
      on_pairs_lem n (λ k ps. pairs_left n k ≡ ps)
      (λ s l ps e.
      left_at s s l l
      ∙ (ap (λ (z : List Pair). z ++ pairs_left n (suc (s * n + s)))
      (cond-true (eqb s s) [] (record { source = s; destination = s } ∷ []) (eq-eqb s s refl))
      ∙ e))
      (λ s d p ps e.
      let q = pair_parts n s d p in
      left_at s d q.0 q.1
      ∙ (ap (λ (z : List Pair). z ++ pairs_left n (suc (s * n + d)))
      (cond-false (eqb s d) [] (record { source = s; destination = d } ∷ []) (ne_eqb s d q.2))
      ∙ ap (λ (z : List Pair). record { source = s; destination = d } ∷ z) e))
      (left_none (n * n) (omega arith))
