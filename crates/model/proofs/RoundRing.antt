-- Every cycle of the table that goes round the ring of four is 0 2 4 6, from one of its members on.
use Rattle.std.proofs.Common.{◌≡◌, ℕ, ◌+◌, ◌%◌, Bool, true, false, ◌&&◌, leb, ◌⊎◌, List, [], ◌∷◌, length, sym, refl, ap, ◌∙◌, subst, inl, inr, arith}
use Rattle.std.proofs.lemmas.Bool.{and_parts, both_ways, false≢true}
use Rattle.std.proofs.lemmas.Bool.Decides.{nat_tests}
use Rattle.model.specs.Lists.{different}
use Rattle.model.specs.Routes.{chained, closed, is_cycle, depends}
use Rattle.model.specs.Examples.{ring_of_four, round_ring, RoundFromAny, RoundCycle}
use Rattle.model.proofs.Members.{is_in_at, is_in_there, different_parts}

abbrev edge : ℕ → ℕ → Bool
edge = depends ring_of_four round_ring.rule 0

-- An edge goes from 0, 2, 4 or 6 to the next of them.
abbrev nxt : ℕ → ℕ
nxt c = (c + 2) % 8

follow : (c c' : ℕ) → edge c c' ≡ true → (c' ≡ nxt c) × ((c ≡ 0) ⊎ ((c ≡ 2) ⊎ ((c ≡ 4) ⊎ (c ≡ 6))))
follow c c' h = (grind (arith, nat_tests), grind (arith, nat_tests))

on : (a c c' : ℕ) → c ≡ a → edge c c' ≡ true → c' ≡ nxt a
on a c c' e h = (follow c c' h).0 ∙ ap nxt e

-- From a the way round is forced.
forced : (a : ℕ) → edge a a ≡ false → edge (nxt a) a ≡ false → edge (nxt (nxt a)) a ≡ false → nxt (nxt (nxt (nxt a))) ≡ a
    → (cs : List ℕ) → different (a ∷ cs) ≡ true → chained edge a a cs ≡ true
    → cs ≡ nxt a ∷ nxt (nxt a) ∷ nxt (nxt (nxt a)) ∷ []
forced a e0 e1 e2 e4 [] d h = absurd (both_ways (edge a a) e0 h)
forced a e0 e1 e2 e4 (c1 ∷ []) d h =
    let p = and_parts (edge a c1) (edge c1 a) h in
    let q1 = on a a c1 refl p.0 in
    absurd (both_ways (edge (nxt a) a) e1 (subst (λ (z : ℕ). edge z a ≡ true) q1 p.1))
forced a e0 e1 e2 e4 (c1 ∷ (c2 ∷ [])) d h =
    let p = and_parts (edge a c1) (chained edge a c1 (c2 ∷ [])) h in
    let p2 = and_parts (edge c1 c2) (edge c2 a) p.1 in
    let q1 = on a a c1 refl p.0 in
    let q2 = on (nxt a) c1 c2 q1 p2.0 in
    absurd (both_ways (edge (nxt (nxt a)) a) e2 (subst (λ (z : ℕ). edge z a ≡ true) q2 p2.1))
forced a e0 e1 e2 e4 (c1 ∷ (c2 ∷ (c3 ∷ []))) d h =
    let p = and_parts (edge a c1) (chained edge a c1 (c2 ∷ (c3 ∷ []))) h in
    let p2 = and_parts (edge c1 c2) (chained edge a c2 (c3 ∷ [])) p.1 in
    let p3 = and_parts (edge c2 c3) (edge c3 a) p2.1 in
    let q1 = on a a c1 refl p.0 in
    let q2 = on (nxt a) c1 c2 q1 p2.0 in
    let q3 = on (nxt (nxt a)) c2 c3 q2 p3.0 in
    cc
forced a e0 e1 e2 e4 (c1 ∷ (c2 ∷ (c3 ∷ (c4 ∷ cs)))) d h =
    let p = and_parts (edge a c1) (chained edge a c1 (c2 ∷ (c3 ∷ (c4 ∷ cs)))) h in
    let p2 = and_parts (edge c1 c2) (chained edge a c2 (c3 ∷ (c4 ∷ cs))) p.1 in
    let p3 = and_parts (edge c2 c3) (chained edge a c3 (c4 ∷ cs)) p2.1 in
    let p4 = and_parts (edge c3 c4) (chained edge a c4 cs) p3.1 in
    let q1 = on a a c1 refl p.0 in
    let q2 = on (nxt a) c1 c2 q1 p2.0 in
    let q3 = on (nxt (nxt a)) c2 c3 q2 p3.0 in
    let q4 : c4 ≡ a = on (nxt (nxt (nxt a))) c3 c4 q3 p4.0 ∙ e4 in
    absurd
    ((different_parts a (c1 ∷ (c2 ∷ (c3 ∷ (c4 ∷ cs)))) d).0
    (is_in_there a c1 (c2 ∷ (c3 ∷ (c4 ∷ cs))) (is_in_there a c2 (c3 ∷ (c4 ∷ cs)) (is_in_there a c3 (c4 ∷ cs) (is_in_at a c4 cs (sym q4))))))

-- The first edge says where a cycle begins.
begins : (a c : ℕ) (cs : List ℕ) → chained edge a c cs ≡ true → (c ≡ 0) ⊎ ((c ≡ 2) ⊎ ((c ≡ 4) ⊎ (c ≡ 6)))
begins a c [] h = (follow c a h).1
begins a c (c' ∷ cs) h = (follow c c' (and_parts (edge c c') (chained edge a c' cs) h).0).1

pub round_cycles : (cs : List ℕ) → is_cycle edge cs ≡ true → RoundFromAny cs
round_cycles [] h = absurd (false≢true h)
round_cycles (a ∷ cs) h =
    let p = and_parts (leb 2 (length (a ∷ cs)) && different (a ∷ cs)) (closed edge (a ∷ cs)) h in
    let d = (and_parts (leb 2 (length (a ∷ cs))) (different (a ∷ cs)) p.0).1 in
    let at : (b : ℕ) → a ≡ b → edge b b ≡ false → edge (nxt b) b ≡ false → edge (nxt (nxt b)) b ≡ false → nxt (nxt (nxt (nxt b))) ≡ b
    → a ∷ cs ≡ b ∷ nxt b ∷ nxt (nxt b) ∷ nxt (nxt (nxt b)) ∷ [] =
    λ b e e0 e1 e2 e4.
    let f =
    forced b e0 e1 e2 e4 cs
    (subst (λ (z : ℕ). different (z ∷ cs) ≡ true) e d) (subst (λ (z : ℕ). chained edge z z cs ≡ true) e p.1) in
    cc in
    elim (begins a a cs p.1) [
      | inl e ↦ inl (at 0 e refl refl refl refl)
      | inr r ↦
          elim r [
            | inl e ↦ inr (inl (at 2 e refl refl refl refl))
            | inr r' ↦ elim r' [ inl e ↦ inr (inr (inl (at 4 e refl refl refl refl))) | inr e ↦ inr (inr (inr (at 6 e refl refl refl refl))) ]
          ]
    ]

pub round_cycle_lem : RoundCycle
round_cycle_lem = (refl, refl, round_cycles, λ a. a.acyclic 0 (omega arith) (0 ∷ 2 ∷ 4 ∷ 6 ∷ []) refl)
