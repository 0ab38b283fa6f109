-- Walks by a rule, one hop at a time: a walk that arrives goes on until it is there, and its channels exist.
use Rattle.std.proofs.Common.{◌≡◌, ℕ, zero, suc, ◌<◌, Bool, true, false, cond, eqb, ltb, List, [], ◌∷◌, Some, None, Option, refl, ap, ◌∙◌, subst, arith}
use Rattle.std.proofs.lemmas.Bool.{and_parts, and_from, eqb-true, ltb-true}
use Rattle.model.specs.Lists.{all_of}
use Rattle.model.specs.Net.{Net, count, start_of, finish_of, leaves}
use Rattle.model.specs.Rules.{Rule}
use Rattle.model.specs.Routes.{fit, hop, walk, Ending, ending, arrives, stops, tires}
use Rattle.model.proofs.Members.{none_some, Some-inj}

pub leaves_parts : (net : Net) (c u : ℕ) → leaves net c u ≡ true → (c < count net) × (start_of net c ≡ u)
leaves_parts net c u h =
    let p = and_parts (ltb c (count net)) (eqb (start_of net c) u) h in
    (ltb-true c (count net) p.0, eqb-true (start_of net c) u p.1)

fit_some : (net : Net) (u c : ℕ) (m : Option ℕ) → fit net u m ≡ Some c → (m ≡ Some c) × (leaves net c u ≡ true)
fit_some net u c None e = none_some c e
fit_some net u c (Some x) e = go (leaves net x u) refl e
  where
    go : (b : Bool) → leaves net x u ≡ b → cond b (Some x) None ≡ Some c → (Some x ≡ Some c) × (leaves net c u ≡ true)
    go true q e' = (e', subst (λ (z : ℕ). leaves net z u ≡ true) (Some-inj x c e') q)
    go false q e' = none_some c e'

module _ (net : Net) (rule : Rule) where
  pub hop_some : (u d c : ℕ) → hop net rule u d ≡ Some c
      → (eqb u d ≡ false) × (rule.next u d ≡ Some c) × (leaves net c u ≡ true)
  hop_some u d c e = go (eqb u d) refl e
    where
      go : (b : Bool) → eqb u d ≡ b → cond b None (fit net u (rule.next u d)) ≡ Some c
          → (eqb u d ≡ false) × (rule.next u d ≡ Some c) × (leaves net c u ≡ true)
      go true q e' = none_some c e'
      go false q e' = let r = fit_some net u c (rule.next u d) e' in (q, r.0, r.1)

  -- A walk that arrives, and has not yet, takes a channel and arrives from there.
  pub advance : (k u d : ℕ) → ending net rule k u d ≡ arrives → eqb u d ≡ false
      → (c : ℕ) × (k' : ℕ) × (rule.next u d ≡ Some c) × (leaves net c u ≡ true)
      × (walk net rule k u d ≡ c ∷ walk net rule k' (finish_of net c) d) × (ending net rule k' (finish_of net c) d ≡ arrives)
  advance zero u d h n =
      let e : tires ≡ arrives = subst (λ (b : Bool). cond b arrives tires ≡ arrives) n h in
      let z : ◌≡◌ {A = ℕ} 0 1 = cc in absurd (omega arith)
  advance (suc k) u d h n = go (hop net rule u d) refl h
    where
      go : (m : Option ℕ) → hop net rule u d ≡ m
          → (elim m as (λ _. Ending) [ None ↦ cond (eqb u d) arrives (stops u) | Some c ↦ ending net rule k (finish_of net c) d ]) ≡ arrives
          → (c : ℕ) × (k' : ℕ) × (rule.next u d ≡ Some c) × (leaves net c u ≡ true)
          × ((elim m as (λ _. List ℕ) [ None ↦ [] | Some c ↦ c ∷ walk net rule k (finish_of net c) d ])
          ≡ c ∷ walk net rule k' (finish_of net c) d)
          × (ending net rule k' (finish_of net c) d ≡ arrives)
      go None e w =
          let w' : stops u ≡ arrives = subst (λ (b : Bool). cond b arrives (stops u) ≡ arrives) n w in
          let z : ◌≡◌ {A = ℕ} 0 1 = cc in absurd (omega arith)
      go (Some c) e w = let s = hop_some u d c e in (c, k, s.1, s.2, refl, w)

  hop_home : (u d : ℕ) → eqb u d ≡ true → hop net rule u d ≡ None
  hop_home u d e = ap (λ (b : Bool). cond b None (fit net u (rule.next u d))) e

  pub walk_home : (k u d : ℕ) → eqb u d ≡ true → walk net rule k u d ≡ []
  walk_home zero u d e = refl
  walk_home (suc k) u d e =
      ap (λ (m : Option ℕ). elim m as (λ _. List ℕ) [ None ↦ [] | Some c ↦ c ∷ walk net rule k (finish_of net c) d ]) (hop_home u d e)

  pub ending_home : (k u d : ℕ) → eqb u d ≡ true → ending net rule k u d ≡ arrives
  ending_home zero u d e = ap (λ (b : Bool). cond b arrives tires) e
  ending_home (suc k) u d e =
      ap
      (λ (m : Option ℕ). elim m as (λ _. Ending) [ None ↦ cond (eqb u d) arrives (stops u) | Some c ↦ ending net rule k (finish_of net c) d ])
      (hop_home u d e)
      ∙ ap (λ (b : Bool). cond b arrives (stops u)) e

  -- Every channel of a walk exists.
  pub walk_exists : (k u d : ℕ) → all_of (λ c. ltb c (count net)) (walk net rule k u d) ≡ true
  walk_exists zero u d = refl
  walk_exists (suc k) u d = go (λ c. walk_exists k (finish_of net c) d) (hop net rule u d) refl
    where
      go : ((c : ℕ) → all_of (λ c. ltb c (count net)) (walk net rule k (finish_of net c) d) ≡ true)
          → (m : Option ℕ) → hop net rule u d ≡ m
          → all_of (λ c. ltb c (count net)) (elim m as (λ _. List ℕ) [ None ↦ [] | Some c ↦ c ∷ walk net rule k (finish_of net c) d ]) ≡ true
      go ih None e = refl
      go ih (Some c) e =
          and_from (ltb c (count net)) (all_of (λ c. ltb c (count net)) (walk net rule k (finish_of net c) d))
          (and_parts (ltb c (count net)) (eqb (start_of net c) u) (hop_some u d c e).2).0 (ih c)
