-- The order gets stuck exactly where some channels lead round to themselves; if none leads directly to itself, that is a cycle.
use Rattle.std.proofs.Common.{◌≡◌, ℕ, zero, suc, ◌<◌, ◌≤◌, Bool, true, false, not, ◌&&◌, eqb, leb, ◌⊎◌, List, [], ◌∷◌, length, Some, None, Option, sym, refl, subst, inl, inr, arith}
use Rattle.std.proofs.lemmas.Bool.{and_parts, and_from, eq-eqb, both_ways, false≢true, not-false, cases_Bool, cases_eq, le-leb}
use Rattle.model.specs.Lists.{below, first, is_in, without, is_empty, different}
use Rattle.model.specs.Routes.{Edge, has, chained, closed, is_cycle}
use Rattle.model.specs.Order.{free, rest_from, order_of, completes}
use Rattle.model.specs.Laws.{CycleExact}
use Rattle.model.proofs.Members.{is_in_here, is_in_there, is_in_at, is_in_cases, all_of_fails, first_in, first_none, is_in_below, length-up_from, different_more, different_parts, without_in, without_fewer}
use Rattle.model.proofs.Ordering.{Takes, done, next, free_before, order_takes, Inside}

-- In a chain from c to a, a and each node after c have an edge from a node of the chain.
before : (e : ℕ → ℕ → Bool) (a c : ℕ) (cs : List ℕ) → chained e a c cs ≡ true → (y : ℕ) → is_in y (a ∷ cs) ≡ true
    → (p : ℕ) × (is_in p (c ∷ cs) ≡ true) × (e p y ≡ true)
before e a c [] h y i =
    elim (is_in_cases y a [] i) [
      | inl q ↦ (c, is_in_here c [], subst (λ (z : ℕ). e c z ≡ true) (sym q) h)
      | inr k ↦ absurd (false≢true k)
    ]
before e a c (c' ∷ cs) h y i =
    let parts = and_parts (e c c') (chained e a c' cs) h in
    let onward : is_in y (a ∷ cs) ≡ true → (p : ℕ) × (is_in p (c ∷ (c' ∷ cs)) ≡ true) × (e p y ≡ true) =
    λ k. let r = before e a c' cs parts.1 y k in (r.0, is_in_there r.0 c (c' ∷ cs) r.1, r.2) in
    elim (is_in_cases y a (c' ∷ cs) i) [
      | inl q ↦ onward (is_in_at y a cs q)
      | inr k ↦
          elim (is_in_cases y c' cs k) [
            | inl q ↦ (c, is_in_here c (c' ∷ cs), subst (λ (z : ℕ). e c z ≡ true) (sym q) parts.0)
            | inr k' ↦ onward (is_in_there y a cs k')
          ]
    ]

-- Each node has an edge to the next.
abbrev linked : (ℕ → ℕ → Bool) → ℕ → List ℕ → Bool
linked e c [] = true
linked e c (c' ∷ cs) = e c c' && linked e c' cs

-- A linked list is cut after p, which has an edge to a.
close_up : (e : ℕ → ℕ → Bool) (a p c : ℕ) (cs : List ℕ)
    → linked e c cs ≡ true → is_in p (c ∷ cs) ≡ true → e p a ≡ true → different (c ∷ cs) ≡ true
    → (ds : List ℕ) × (chained e a c ds ≡ true) × (different (c ∷ ds) ≡ true) × ((x : ℕ) → is_in x ds ≡ true → is_in x cs ≡ true)
close_up e a p c [] l i h d =
    elim (is_in_cases p c [] i) [
      | inl q ↦ ([], subst (λ (z : ℕ). e z a ≡ true) q h, d, λ x j. j)
      | inr k ↦ absurd (false≢true k)
    ]
close_up e a p c (c' ∷ cs) l i h d =
    let ls = and_parts (e c c') (linked e c' cs) l in
    let dp = different_parts c (c' ∷ cs) d in
    elim (is_in_cases p c (c' ∷ cs) i) [
      | inl q ↦ ([], subst (λ (z : ℕ). e z a ≡ true) q h, refl, λ x j. absurd (false≢true j))
      | inr k ↦
          let r = close_up e a p c' cs ls.1 k h dp.1 in
          let sub : (x : ℕ) → is_in x (c' ∷ r.0) ≡ true → is_in x (c' ∷ cs) ≡ true =
          λ x j. elim (is_in_cases x c' r.0 j) [ inl q ↦ is_in_at x c' cs q | inr j' ↦ is_in_there x c' cs (r.3 x j') ] in
          let apart = different_more c (c' ∷ r.0) (λ j. dp.0 (sub c j)) r.2 in
          (c' ∷ r.0, and_from (e c c') (chained e a c' r.0) ls.0 r.1, apart, sub)
    ]

module _ (es : List Edge) where
  -- No channel of a closed chain is ever free, so an order that takes all has none.
  never_taken : (a : ℕ) (cs : List ℕ) → chained (has es) a a cs ≡ true → (rest order : List ℕ) → Takes es rest order
      → ((x : ℕ) → is_in x (a ∷ cs) ≡ true → is_in x rest ≡ true) → ⊥
  never_taken a cs h rest [] done all = false≢true (all a (is_in_here a cs))
  never_taken a cs h rest (c ∷ order) (next i f t) all =
      let out : is_in c (a ∷ cs) ≡ true → ⊥ =
      λ q. let b = before (has es) a a cs h c q in free_before es rest c b.0 f b.2 (all b.0 b.1) in
      never_taken a cs h (without c rest) order t
      (λ y q. without_in c rest y (all y q) (λ w. out (subst (λ (z : ℕ). is_in z (a ∷ cs) ≡ true) w q)))

  pub complete_open : (n : ℕ) → Inside n es → completes n es ≡ true
      → (cs : List ℕ) → closed (has es) cs ≡ true → ⊥
  complete_open n inside s [] h = false≢true h
  complete_open n inside s (a ∷ cs) h =
      never_taken a cs h (below n) (order_of n es) (order_takes n es s)
      (λ x i. let b = before (has es) a a cs h x i in is_in_below n x (inside b.0 x b.2).1)

  -- Each of them has a predecessor among them.
  abbrev Led : List ℕ → Type 0
  Led rest = (x : ℕ) → is_in x rest ≡ true → (p : ℕ) × (is_in p rest ≡ true) × (has es p x ≡ true)

  -- That is so of what is left in the end.
  stuck : (k : ℕ) (rest : List ℕ) → length rest ≤ k → Led (rest_from es k rest)
  stuck zero [] l = λ x i. absurd (false≢true i)
  stuck zero (y ∷ ys) l = let z : ⊥ = omega arith in absurd z
  stuck (suc k) rest l = go (λ c. stuck k (without c rest)) (first (free es rest) rest) refl
    where
      go : ((c : ℕ) → length (without c rest) ≤ k → Led (rest_from es k (without c rest)))
          → (m : Option ℕ) → first (free es rest) rest ≡ m
          → Led (elim m as (λ _. List ℕ) [ None ↦ rest | Some c ↦ rest_from es k (without c rest) ])
      go ih None e = λ x i.
          let f = all_of_fails (λ (e : Edge). not (eqb e.head x && is_in e.tail rest)) es (first_none (free es rest) rest e x i) in
          let t = f.0.tail in
          let both = and_parts (eqb f.0.head x) (is_in t rest) (not-false (eqb f.0.head x && is_in t rest) f.1) in
          (t, both.1, f.2 (λ e. eqb e.tail t && eqb e.head x) (and_from (eqb t t) (eqb f.0.head x) (eq-eqb t t refl) both.0))
      go ih (Some c) e = let fewer = without_fewer c rest (first_in (free es rest) rest c e) in ih c (omega arith)

  -- Different channels that lead round: a closed walk of one or more edges.
  abbrev pub ClosedWalk : Type 0
  ClosedWalk = (cs : List ℕ) × (different cs ≡ true) × (closed (has es) cs ≡ true)

  -- Going back from predecessor to predecessor comes round.
  comes_round : (rest : List ℕ) → Led rest
      → (m u : ℕ) (us others : List ℕ) → length others < m → is_in u rest ≡ true
      → ((x : ℕ) → is_in x rest ≡ true → (is_in x (u ∷ us) ≡ true) ⊎ (is_in x others ≡ true))
      → different (u ∷ us) ≡ true → linked (has es) u us ≡ true → ClosedWalk
  comes_round rest back zero u us others l i cover d k = let z : ⊥ = omega arith in absurd z
  comes_round rest back (suc m) u us others l i cover d k =
      let b = back u i in
      let p = b.0 in
      elim (cases_Bool (is_in p (u ∷ us))) [
        | inl q ↦ let r = close_up (has es) u p u us k q b.2 d in (u ∷ r.0, r.2, r.1)
        | inr out ↦
            let among : is_in p others ≡ true = elim (cover p b.1) [ inl q ↦ absurd (both_ways (is_in p (u ∷ us)) out q) | inr q ↦ q ] in
            let fewer = without_fewer p others among in
            comes_round rest back m p (u ∷ us) (without p others) (omega arith) b.1
            (λ x q.
            elim (cases_eq x p) [
              | inl e ↦ inl (is_in_at x p (u ∷ us) e)
              | inr ne ↦ elim (cover x q) [ inl w ↦ inl (is_in_there x p (u ∷ us) w) | inr w ↦ inr (without_in p others x w ne) ]
            ])
            (different_more p (u ∷ us) (both_ways (is_in p (u ∷ us)) out) d)
            (and_from (has es p u) (linked (has es) u us) b.2 k)
      ]

  -- An order that is not complete leaves some that lead round.
  pub stuck_closed : (n : ℕ) → completes n es ≡ false → ClosedWalk
  stuck_closed n s = from (rest_from es n (below n)) s (let len = length-up_from n 0 in stuck n (below n) (omega arith))
    where
      from : (rest : List ℕ) → is_empty rest ≡ false → Led rest → ClosedWalk
      from [] s back = absurd (false≢true (sym s))
      from (u ∷ us) s back =
          comes_round (u ∷ us) back (suc (length us)) u [] us (omega arith) (is_in_here u us)
          (λ x q. elim (is_in_cases x u us q) [ inl e ↦ inl (is_in_at x u [] e) | inr k ↦ inr k ]) refl refl

  -- Where no channel leads to itself, those are two or more.
  two_or_more : ((c : ℕ) → has es c c ≡ false) → (cs : List ℕ) → different cs ≡ true → closed (has es) cs ≡ true
      → is_cycle (has es) cs ≡ true
  two_or_more none [] d h = absurd (false≢true h)
  two_or_more none (u ∷ []) d h = absurd (both_ways (has es u u) (none u) h)
  two_or_more none (u ∷ (y ∷ ys)) d h =
      let two : leb 2 (length (u ∷ (y ∷ ys))) ≡ true = le-leb 2 (length (u ∷ (y ∷ ys))) (omega arith) in
      and_from (leb 2 (length (u ∷ (y ∷ ys))) && different (u ∷ (y ∷ ys))) (closed (has es) (u ∷ (y ∷ ys)))
      (and_from (leb 2 (length (u ∷ (y ∷ ys)))) (different (u ∷ (y ∷ ys))) two d) h

pub cycle_exact_lem : CycleExact
cycle_exact_lem n es ok = (
  λ s cs c. complete_open es n ok.inside s cs (and_parts (leb 2 (length cs) && different cs) (closed (has es) cs) c).1,
  λ s. let r = stuck_closed es n s in (r.0, two_or_more es ok.apart r.0 r.1 r.2),
)
