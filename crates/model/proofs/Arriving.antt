-- A walk that arrives is a way, and a way is the walk of that many channels or more; one switch has one way.
use Rattle.std.proofs.Common.{◌≡◌, ℕ, zero, suc, ◌-◌, ◌≤◌, Bool, true, false, cond, eqb, ltb, ◌⊎◌, List, [], ◌∷◌, ◌++◌, length, Some, None, Option, sym, refl, ap, ◌∙◌, subst, inl, inr, arith}
use Rattle.std.proofs.lemmas.Bool.{and_from, eqb-true, eqb-false, lt-ltb, ne_eqb, eq-eqb, cases_Bool}
use Rattle.model.specs.Net.{Net, count, start_of, finish_of, leaves}
use Rattle.model.specs.Rules.{Rule}
use Rattle.model.specs.Routes.{Way, home, onto, Arrives, fit, hop, walk, Ending, ending, arrives, stops, tires, route, route_ends}
use Rattle.model.proofs.Members.{Some-inj}
use Rattle.model.proofs.Walking.{leaves_parts, hop_some, walk_home, ending_home}

module _ (net : Net) (rule : Rule) (d : ℕ) where
  -- The way from u to d, of at most k channels.
  abbrev Went : ℕ → ℕ → List ℕ → Type 0
  Went k u cs = Way net rule d u cs × (length cs ≤ k)

  way_here : (u : ℕ) → eqb u d ≡ true → Way net rule d u []
  way_here u e = subst (λ (z : ℕ). Way net rule d z []) (sym (eqb-true u d e)) home

  pub walk_way : (k u : ℕ) → ending net rule k u d ≡ arrives → Went k u (walk net rule k u d)
  walk_way zero u h = go (eqb u d) refl h
    where
      go : (b : Bool) → eqb u d ≡ b → cond b arrives tires ≡ arrives → Went zero u []
      go true e h' = (way_here u e, omega arith)
      go false e h' = let z : ◌≡◌ {A = ℕ} 0 1 = cc in absurd (omega arith)
  walk_way (suc k) u h = go (λ c. walk_way k (finish_of net c)) (hop net rule u d) refl (cases_Bool (eqb u d)) h
    where
      go : ((c : ℕ) → ending net rule k (finish_of net c) d ≡ arrives → Went k (finish_of net c) (walk net rule k (finish_of net c) d))
          → (m : Option ℕ) → hop net rule u d ≡ m → (eqb u d ≡ true) ⊎ (eqb u d ≡ false)
          → (elim m as (λ _. Ending) [ None ↦ cond (eqb u d) arrives (stops u) | Some c ↦ ending net rule k (finish_of net c) d ]) ≡ arrives
          → Went (suc k) u (elim m as (λ _. List ℕ) [ None ↦ [] | Some c ↦ c ∷ walk net rule k (finish_of net c) d ])
      go ih None e (inl b) w = (way_here u b, omega arith)
      go ih None e (inr b) w =
          let w' : stops u ≡ arrives = subst (λ (b : Bool). cond b arrives (stops u) ≡ arrives) b w in
          let z : ◌≡◌ {A = ℕ} 0 1 = cc in absurd (omega arith)
      go ih (Some c) e b w =
          let s = hop_some net rule u d c e in
          let l = leaves_parts net c u s.2 in
          let r = ih c w in
          (onto (eqb-false u d s.0) s.1 l.0 l.1 r.0, omega arith)

  pub way_walk : (k u : ℕ) (cs : List ℕ) → Way net rule d u cs → length cs ≤ k
      → (walk net rule k u d ≡ cs) × (ending net rule k u d ≡ arrives)
  way_walk k u [] home l = let e = eq-eqb d d refl in (walk_home net rule k d d e, ending_home net rule k d d e)
  way_walk zero u (c ∷ cs) (onto ne e lt st w) l = let z : ⊥ = omega arith in absurd z
  way_walk (suc k) u (c ∷ cs) (onto ne e lt st w) l =
      let lv : leaves net c u ≡ true =
      and_from (ltb c (count net)) (eqb (start_of net c) u) (lt-ltb c (count net) lt) (eq-eqb (start_of net c) u st) in
      let hs : hop net rule u d ≡ Some c =
      ap (λ (b : Bool). cond b None (fit net u (rule.next u d))) (ne_eqb u d ne)
      ∙ (ap (fit net u) e ∙ ap (λ (b : Bool). cond b (Some c) None) lv) in
      let r = way_walk k (finish_of net c) cs w (omega arith) in
      subst
      (λ (m : Option ℕ). ((elim m as (λ _. List ℕ) [ None ↦ [] | Some c ↦ c ∷ walk net rule k (finish_of net c) d ]) ≡ c ∷ cs)
      × ((elim m as (λ _. Ending) [ None ↦ cond (eqb u d) arrives (stops u) | Some c ↦ ending net rule k (finish_of net c) d ]) ≡ arrives))
      (sym hs) (ap (λ (z : List ℕ). c ∷ z) r.0, r.1)

  -- What follows a front of a way is a way.
  pub way_drop : (u : ℕ) (xs ys : List ℕ) → Way net rule d u (xs ++ ys) → (v : ℕ) × Way net rule d v ys
  way_drop u [] ys w = (u, w)
  way_drop u (x ∷ xs) ys (onto ne e lt st w) = way_drop (finish_of net x) xs ys w

  -- One switch has one way.
  pub way_same : (u v : ℕ) (cs cs' : List ℕ) → Way net rule d u cs → Way net rule d v cs' → u ≡ v → cs ≡ cs'
  way_same u v [] [] w w' q = refl
  way_same u v [] (c ∷ cs) home (onto ne e lt st w) q = absurd (ne (sym q))
  way_same u v (c ∷ cs) [] (onto ne e lt st w) home q = absurd (ne q)
  way_same u v (c ∷ cs) (c' ∷ cs') (onto ne e lt st w) (onto ne' e' lt' st' w') q =
      let same : c ≡ c' = Some-inj c c' (sym e ∙ (ap (λ (z : ℕ). rule.next z d) q ∙ e')) in
      let rest = way_same (finish_of net c) (finish_of net c') cs cs' w w' (ap (finish_of net) same) in
      cc

-- A pair arrives exactly when its route does, and then the route is its way.
pub ends_arrives : (net : Net) (rule : Rule) (s d : ℕ) → route_ends net rule s d ≡ arrives → Arrives net rule s d
ends_arrives net rule s d h =
    let w = walk_way net rule d (net.switches - 1) s h in record { way = route net rule s d; goes = w.0; short = w.1 }

pub arrives_ends : (net : Net) (rule : Rule) (s d : ℕ) → Arrives net rule s d → route_ends net rule s d ≡ arrives
arrives_ends net rule s d a = (way_walk net rule d (net.switches - 1) s a.way a.goes a.short).1

pub route_way : (net : Net) (rule : Rule) (s d : ℕ) → Arrives net rule s d → Way net rule d s (route net rule s d)
route_way net rule s d a = (walk_way net rule d (net.switches - 1) s (arrives_ends net rule s d a)).0
