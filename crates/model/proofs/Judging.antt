-- What each verdict says; that it is yes exactly when the setup is accepted; and that then the order of every lane is complete.
use Rattle.std.proofs.Common.{◌≡◌, ℕ, zero, suc, ◌+◌, ◌<◌, Bool, true, false, cond, not, ◌&&◌, eqb, ltb, ◌⊎◌, List, ◌∷◌, ◌++◌, map, sym, refl, subst, inl, inr, arith}
use Rattle.std.proofs.lemmas.Bool.{and_from, eqb-true, ltb-true, ltb-false, lt-ltb, cases_Bool, cases_eq, not_from_false}
use Rattle.model.specs.Lists.{up_from, below, keep, joined}
use Rattle.model.specs.Net.{count, is_pair}
use Rattle.model.specs.Rules.{Setup}
use Rattle.model.specs.Routes.{Pair, Ending, arrives, stops, tires, Arrives, route_ends, lane_deps}
use Rattle.model.specs.Order.{completes}
use Rattle.model.specs.Verdicts.{Accepts, Verdict, fine, stopped, unreached, laneless, cyclic, pair_verdict, lanes_verdict, pairs_verdict, verdict}
use Rattle.model.specs.Laws.{HasCycle, Passes, FirstPair, Says, VerdictSays, VerdictExact, CyclicLowest, AcceptedOrdered}
use Rattle.model.proofs.Dependencies.{pair_parts}
use Rattle.model.proofs.Arriving.{ends_arrives, arrives_ends}
use Rattle.model.proofs.RoutesOnce.{lane_loopless}
use Rattle.model.proofs.Ordering.{order_exact_lem}
use Rattle.model.proofs.Cycles.{cycle_exact_lem}

-- The order of lane ℓ is complete.
abbrev complete : Setup → ℕ → Bool
complete g ℓ = completes (count g.net) (lane_deps g.net g.rule ℓ)

-- Where every pair arrives, a lane has a cycle exactly when its order is not complete.
lane_cycle : (g : Setup) → ((s d : ℕ) → is_pair g.net.switches s d ≡ true → Arrives g.net g.rule s d) → (ℓ : ℕ)
    → (complete g ℓ ≡ true → HasCycle g ℓ → ⊥) × (complete g ℓ ≡ false → HasCycle g ℓ)
lane_cycle g arrive ℓ =
    let c = cycle_exact_lem (count g.net) (lane_deps g.net g.rule ℓ) (lane_loopless g.net g.rule arrive ℓ) in
    (λ e h. c.0 e h.0 h.1, c.1)

-- In an accepted setup the order of every lane is complete.
pub accepted_completes : (g : Setup) → Accepts g → (ℓ : ℕ) → ℓ < g.lanes → complete g ℓ ≡ true
accepted_completes g a ℓ l =
    elim (cases_Bool (complete g ℓ)) [
      | inl t ↦ t
      | inr f ↦ let c = (lane_cycle g a.arrive ℓ).1 f in absurd (a.acyclic ℓ l c.0 c.1)
    ]

pub accepted_ordered_lem : AcceptedOrdered
accepted_ordered_lem g a ℓ l = order_exact_lem (count g.net) (lane_deps g.net g.rule ℓ) (accepted_completes g a ℓ l)

module _ (g : Setup) where
  -- The verdict on the lanes from i on, where every pair passes and no lane below i has a cycle.
  lanes_say : ((s d : ℕ) → is_pair g.net.switches s d ≡ true → Passes g s d)
      → (k i : ℕ) → i + k ≡ g.lanes → ((m : ℕ) → m < i → HasCycle g m → ⊥) → Says g (lanes_verdict g.net g.rule (up_from k i))
  lanes_say pass zero i e none =
      record {
        arrive = λ s d p. (pass s d p).arrive;
        in_lane = λ s d p. (pass s d p).in_lane;
        acyclic = λ ℓ l cs c. none ℓ (omega arith) (cs, c);
      }
  lanes_say pass (suc k) i e none = go (lanes_say pass k (suc i) (omega arith)) (complete g i) refl
    where
      cycles : (complete g i ≡ true → HasCycle g i → ⊥) × (complete g i ≡ false → HasCycle g i)
      cycles = lane_cycle g (λ s d p. (pass s d p).arrive) i

      go : (((m : ℕ) → m < suc i → HasCycle g m → ⊥) → Says g (lanes_verdict g.net g.rule (up_from k (suc i))))
          → (b : Bool) → complete g i ≡ b
          → Says g (elim b as (λ _. Verdict) [ true ↦ lanes_verdict g.net g.rule (up_from k (suc i)) | false ↦ cyclic i ])
      go ih true q =
          ih (λ m l h. elim (cases_eq m i) [ inl w ↦ cycles.0 q (subst (HasCycle g) w h) | inr ne ↦ none m (omega arith) h ])
      go ih false q = (pass, omega arith, cycles.1 q, none)

  -- Every pair before (s, d), by source and then destination, passes.
  abbrev Before : ℕ → ℕ → Type 0
  Before s d = (a b : ℕ) → is_pair g.net.switches a b ≡ true → (a < s) ⊎ ((a ≡ s) × (b < d)) → Passes g a b

  before_more : (s d : ℕ) → Before s d → (is_pair g.net.switches s d ≡ true → Passes g s d) → Before s (suc d)
  before_more s d before here = λ a b p at.
      elim at [
        | inl l ↦ before a b p (inl l)
        | inr r ↦
            elim (cases_eq b d) [
              | inl q ↦
                  subst (λ (z : ℕ). is_pair g.net.switches z b ≡ true → Passes g z b) (sym r.0)
                  (subst (λ (z : ℕ). is_pair g.net.switches s z ≡ true → Passes g s z) (sym q) here) p
              | inr ne ↦ before a b p (inr (r.0, omega arith))
            ]
      ]

  -- The verdict on the pair (s, d), and where it passes on the rest.
  pair_says : (s d : ℕ) → is_pair g.net.switches s d ≡ true → Before s d → (rest : Verdict) → (Before s (suc d) → Says g rest)
      → Says g (pair_verdict s d (ltb (g.rule.lane s d) g.lanes) (route_ends g.net g.rule s d) rest)
  pair_says s d p before rest on = go (ltb (g.rule.lane s d) g.lanes) refl (route_ends g.net g.rule s d) refl
    where
      first : FirstPair g s d
      first = record { pair = p; before = before }

      go : (b : Bool) → ltb (g.rule.lane s d) g.lanes ≡ b → (e : Ending) → route_ends g.net g.rule s d ≡ e
          → Says g (pair_verdict s d b e rest)
      go true l arrives q =
          on (before_more s d before
          (λ _. record { arrive = ends_arrives g.net g.rule s d q; in_lane = ltb-true (g.rule.lane s d) g.lanes l }))
      go false l arrives q = (first, ends_arrives g.net g.rule s d q, ltb-false (g.rule.lane s d) g.lanes l)
      go b l (stops u) q = (first, q)
      go b l tires q = (first, q)

  -- The pairs from s to each of ds.
  abbrev row : ℕ → List ℕ → List Pair
  row s ds = map (λ d. record { source = s; destination = d }) (keep (λ d. not (eqb s d)) ds)

  abbrev on_pairs : List Pair → Verdict
  on_pairs = pairs_verdict g.net g.lanes g.rule

  -- The verdict on the pairs from (s, d) on, of the same source, and then on more.
  row_says : (s : ℕ) → s < g.net.switches → (ps : List Pair) → (Before s g.net.switches → Says g (on_pairs ps))
      → (k d : ℕ) → d + k ≡ g.net.switches → Before s d → Says g (on_pairs (row s (up_from k d) ++ ps))
  row_says s l ps on zero d e before = let q : d ≡ g.net.switches = omega arith in on (subst (Before s) q before)
  row_says s l ps on (suc k) d e before = go (row_says s l ps on k (suc d) (omega arith)) (eqb s d) refl
    where
      go : (Before s (suc d) → Says g (on_pairs (row s (up_from k (suc d)) ++ ps))) → (b : Bool) → eqb s d ≡ b
          → Says g
          (on_pairs
          (map (λ d. record { source = s; destination = d })
          (cond (not b) (d ∷ keep (λ d. not (eqb s d)) (up_from k (suc d))) (keep (λ d. not (eqb s d)) (up_from k (suc d))))
          ++ ps))
      go ih true q = ih (before_more s d before (λ p. absurd ((pair_parts g.net.switches s d p).2 (eqb-true s d q))))
      go ih false q =
          let n = g.net.switches in
          let both = and_from (ltb s n) (ltb d n) (lt-ltb s n l) (lt-ltb d n (omega arith)) in
          let p = and_from (ltb s n && ltb d n) (not (eqb s d)) both (not_from_false (eqb s d) q) in
          pair_says s d p before (on_pairs (row s (up_from k (suc d)) ++ ps)) ih

  -- The verdict on the pairs whose source is s or later.
  rows_say : (k s : ℕ) → s + k ≡ g.net.switches → Before s 0
      → Says g (on_pairs (joined (λ s. row s (below g.net.switches)) (up_from k s)))
  rows_say zero s e before =
      lanes_say (λ a b p. let l = (pair_parts g.net.switches a b p).0 in before a b p (inl (omega arith))) g.lanes 0 (omega arith)
      (λ m l. absurd (omega arith))
  rows_say (suc k) s e before =
      row_says s (omega arith) (joined (λ s. row s (below g.net.switches)) (up_from k (suc s)))
      (λ done.
      rows_say k (suc s) (omega arith)
      (λ a b p at.
      elim at [
        | inl l ↦
            elim (cases_eq a s) [
              | inl q ↦ done a b p (inr (q, (pair_parts g.net.switches a b p).1))
              | inr ne ↦ done a b p (inl (omega arith))
            ]
        | inr r ↦ let l = r.1 in absurd (omega arith)
      ]))
      g.net.switches 0 (omega arith) before

pub verdict_says_lem : VerdictSays
verdict_says_lem g =
    rows_say g g.net.switches 0 (omega arith)
    (λ a b p at. elim at [ inl l ↦ absurd (omega arith) | inr r ↦ let l = r.1 in absurd (omega arith) ])

pub cyclic_lowest_lem : CyclicLowest
cyclic_lowest_lem g ℓ e = let s = subst (Says g) e (verdict_says_lem g) in (s.1, s.2, s.3)

-- An accepted setup has no other verdict.
says_fine : (g : Setup) → Accepts g → (v : Verdict) → Says g v → v ≡ fine
says_fine g a fine s = refl
says_fine g a (stopped s d u) (f, e) =
    let r = arrives_ends g.net g.rule s d (a.arrive s d f.pair) in let z : ◌≡◌ {A = ℕ} 0 1 = cc in absurd (omega arith)
says_fine g a (unreached s d) (f, e) =
    let r = arrives_ends g.net g.rule s d (a.arrive s d f.pair) in let z : ◌≡◌ {A = ℕ} 0 1 = cc in absurd (omega arith)
says_fine g a (laneless s d) (f, w, l) = let r = a.in_lane s d f.pair in absurd (omega arith)
says_fine g a (cyclic ℓ) (pass, l, c, none) = absurd (a.acyclic ℓ l c.0 c.1)

pub verdict_exact_lem : VerdictExact
verdict_exact_lem g = (λ e. subst (Says g) e (verdict_says_lem g), λ a. says_fine g a (verdict g) (verdict_says_lem g))
