-- An order of dependencies is complete exactly when no walk comes back to where it began.
use Rattle.std.proofs.Common.{◌≡◌, ℕ, zero, suc, ◌+◌, ◌<◌, ◌≤◌, Bool, true, false, cond, ◌&&◌, eqb, ltb, List, [], ◌∷◌, length, refl, ap, subst, inl, inr, arith}
use Rattle.std.proofs.lemmas.Bool.{cases_eq, cases_Bool, and_parts, or_cases, eqb-true, eq-eqb, ne_eqb, ltb-true, false≢true}
use Rattle.model.specs.Lists.{below, is_in, without, all_of}
use Rattle.model.specs.Routes.{Edge, has, steps, chained, closed}
use Rattle.model.specs.Order.{completes, order_of}
use Rattle.model.specs.Walks.{Walk}
use Rattle.model.proofs.Members.{is_in_below, without_in}
use Rattle.model.proofs.Ordering.{Takes, done, next, free_before, order_takes, Inside}
use Rattle.model.proofs.Cycles.{stuck_closed}
use Rattle.planner.specs.Cycles.{Acyclic}

-- Where a channel stands in an order.
abbrev rank : ℕ → List ℕ → ℕ
rank x [] = 0
rank x (y ∷ ys) = cond (eqb x y) 0 (suc (rank x ys))

rank_here : (x y : ℕ) (ys : List ℕ) → x ≡ y → rank x (y ∷ ys) ≡ 0
rank_here x y ys e = ap (λ (b : Bool). cond b 0 (suc (rank x ys))) (eq-eqb x y e)

rank_there : (x y : ℕ) (ys : List ℕ) → (x ≡ y → ⊥) → rank x (y ∷ ys) ≡ suc (rank x ys)
rank_there x y ys e = ap (λ (b : Bool). cond b 0 (suc (rank x ys))) (ne_eqb x y e)

-- A dependency leads forward in the order.
forward : (es : List Edge) (rest order : List ℕ) → Takes es rest order
    → (b c : ℕ) → has es b c ≡ true → is_in b rest ≡ true → is_in c rest ≡ true → rank b order < rank c order
forward es rest [] done b c h i j = absurd (false≢true i)
forward es rest (x ∷ order) (next k f t) b c h i j =
    elim (cases_eq c x) [
      | inl e ↦ absurd (free_before es rest x b f (subst (λ (z : ℕ). has es b z ≡ true) e h) i)
      | inr c≢ ↦
          elim (cases_eq b x) [
            | inl e ↦ omega (arith, rank_here b x order e, rank_there c x order c≢)
            | inr b≢ ↦
                omega (
                  arith,
                  rank_there b x order b≢,
                  rank_there c x order c≢,
                  forward es (without x rest) order t b c h (without_in x rest b i b≢) (without_in x rest c j c≢),
                )
          ]
    ]

climbs : (e : ℕ → ℕ → Bool) (n : ℕ) (r : ℕ → ℕ) → ((b c : ℕ) → b < n → c < n → e b c ≡ true → r b < r c)
    → (a k b : ℕ) → b < n → Walk e n a k b → r a + k ≤ r b
climbs e n r h a zero b hb w = let q : r a ≡ r b = ap r w in omega arith
climbs e n r h a (suc k) b hb w = let i = climbs e n r h a k w.0 w.1 w.2 in let z = h w.0 b w.1 hb w.3 in omega arith

complete_acyclic : (n : ℕ) (es : List Edge) → completes n es ≡ true → Acyclic (has es) n
complete_acyclic n es s a k ha w =
    let t = order_takes n es s in
    let z =
    climbs (has es) n (λ x. rank x (order_of n es))
    (λ b c hb hc h. forward es (below n) (order_of n es) t b c h (is_in_below n b hb) (is_in_below n c hc)) a (suc k) a ha w in
    omega arith

-- A walk with an edge in front.
walk_after : (e : ℕ → ℕ → Bool) (n u v : ℕ) → u < n → e u v ≡ true → (j b : ℕ) → Walk e n v j b → Walk e n u (suc j) b
walk_after e n u v l h zero b w = (u, l, refl, subst (λ (z : ℕ). e u z ≡ true) w h)
walk_after e n u v l h (suc j) b (m, q, w, g) = (m, q, walk_after e n u v l h j m w, g)

chain_walk : (n : ℕ) (es : List Edge) → Inside n es → (a c : ℕ) (cs : List ℕ) → chained (has es) a c cs ≡ true → (c < n) × Walk (has es) n c (suc (length cs)) a
chain_walk n es inside a c [] h = let l = (inside c a h).0 in (l, (c, l, refl, h))
chain_walk n es inside a c (x ∷ cs) h =
    let p = and_parts (has es c x) (chained (has es) a x cs) h in
    let l = (inside c x p.0).0 in
    (l, walk_after (has es) n c x l p.0 (suc (length cs)) a (chain_walk n es inside a x cs p.1).1)

closed_walk : (n : ℕ) (es : List Edge) → Inside n es → (cs : List ℕ) → closed (has es) cs ≡ true → Acyclic (has es) n → ⊥
closed_walk n es inside [] h A = false≢true h
closed_walk n es inside (c ∷ cs) h A = let w = chain_walk n es inside c c cs h in A c (length cs) w.0 w.1

pub completes_yes : (n : ℕ) (es : List Edge) → Inside n es → Acyclic (has es) n → completes n es ≡ true
completes_yes n es inside A =
    elim (cases_Bool (completes n es)) [
      | inl e ↦ e
      | inr e ↦ let r = stuck_closed es n e in absurd (closed_walk n es inside r.0 r.2 A)
    ]

pub completes_no : (n : ℕ) (es : List Edge) → (Acyclic (has es) n → ⊥) → completes n es ≡ false
completes_no n es C = elim (cases_Bool (completes n es)) [ inl e ↦ absurd (C (complete_acyclic n es e)) | inr e ↦ e ]

-- The dependencies of channels below n are between such channels.
pub steps_inside : (n : ℕ) (cs : List ℕ) → all_of (λ c. ltb c n) cs ≡ true → Inside n (steps cs)
steps_inside n [] h b c e = absurd (false≢true e)
steps_inside n (x ∷ []) h b c e = absurd (false≢true e)
steps_inside n (x ∷ (y ∷ cs)) h b c e =
    let p = and_parts (ltb x n) (all_of (λ c. ltb c n) (y ∷ cs)) h in
    let q = and_parts (ltb y n) (all_of (λ c. ltb c n) cs) p.1 in
    elim (or_cases (eqb x b && eqb y c) (has (steps (y ∷ cs)) b c) e) [
      | inl w ↦
          let r = and_parts (eqb x b) (eqb y c) w in
          (subst (λ (z : ℕ). z < n) (eqb-true x b r.0) (ltb-true x n p.0), subst (λ (z : ℕ). z < n) (eqb-true y c r.1) (ltb-true y n q.0))
      | inr w ↦ steps_inside n (y ∷ cs) p.1 b c w
    ]
