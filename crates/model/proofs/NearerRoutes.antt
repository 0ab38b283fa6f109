-- Routes over channels that lead one hop nearer: they arrive, and no walk is shorter.
use Rattle.std.proofs.Common.{◌≡◌, ℕ, zero, suc, ◌-◌, ◌<◌, ◌≤◌, Bool, true, false, cond, not, ◌&&◌, eqb, ltb, List, [], ◌∷◌, length, Some, None, Option, sym, refl, ap, ◌∙◌, subst, inl, inr, arith}
use Rattle.std.proofs.lemmas.Bool.{and_parts, and_from, eqb-true, eq-eqb, ne_eqb, lt-ltb, not_from_false, both_ways, false≢true}
use Rattle.model.specs.Lists.{below, keep, first}
use Rattle.model.specs.Net.{Net, nowhere, count, start_of, finish_of, leaves, joins, is_pair}
use Rattle.model.specs.Rules.{Rule, table_rule}
use Rattle.model.specs.Routes.{Way, home, onto, Arrives, route}
use Rattle.model.specs.Walks.{Walk, Fewest}
use Rattle.model.specs.Planner.{hops, one_more, nearer, chosen, byte_of, hop_table}
use Rattle.model.specs.Plans.{Sound, Apart}
use Rattle.model.proofs.Members.{option_cases, any_at, first_passes, first_none, is_in_below}
use Rattle.model.proofs.Dependencies.{pair_parts}
use Rattle.model.proofs.Walking.{leaves_parts}
use Rattle.model.proofs.Arriving.{way_walk}
use Rattle.model.proofs.PlannerHops.{hops_exact_lem, walk_after}
use Rattle.model.proofs.Squares.{square_next, byte_channel}

-- A walk by its first edge.
walk_first : (e : ℕ → ℕ → Bool) (n a k b : ℕ) → b < n → Walk e n a (suc k) b → (v : ℕ) × (v < n) × (e a v ≡ true) × Walk e n v k b
walk_first e n a zero b l (m, q, w, h) = (b, l, subst (λ (z : ℕ). e z b ≡ true) (sym w) h, refl)
walk_first e n a (suc k) b l (m, q, w, h) = let r = walk_first e n a k m q w in (r.0, r.1, r.2, (m, q, r.3, h))

-- The lowest of those kept is the first that passes.
pub chosen_first : (f : ℕ → Bool) (xs : List ℕ) → chosen (keep f xs) ≡ first f xs
chosen_first f [] = refl
chosen_first f (x ∷ xs) = go (chosen_first f xs) (f x)
  where
    go : chosen (keep f xs) ≡ first f xs → (b : Bool) → chosen (cond b (x ∷ keep f xs) (keep f xs)) ≡ cond b (Some x) (first f xs)
    go ih true = refl
    go ih false = ih

one_more_parts : (m far : Option ℕ) → one_more m far ≡ true → (k : ℕ) × (m ≡ Some k) × (far ≡ Some (suc k))
one_more_parts None far h = absurd (false≢true h)
one_more_parts (Some k) None h = absurd (false≢true h)
one_more_parts (Some k) (Some m) h = (k, refl, ap (λ (z : ℕ). Some z) (sym (eqb-true (suc k) m h)))

module _ (net : Net) (ok : Sound net) where
  -- What the hop count says of walks.
  pub hops_none : (u d : ℕ) → u < net.switches → d < net.switches → hops net u d ≡ None → Apart net u d
  hops_none u d lu ld e = subst (Fewest (joins net) net.switches u d) e (hops_exact_lem net ok.inside u d lu ld) lu ld

  pub hops_some : (u d k : ℕ) → u < net.switches → d < net.switches → hops net u d ≡ Some k
      → (k < net.switches) × Walk (joins net) net.switches u k d × ((j : ℕ) → Walk (joins net) net.switches u j d → k ≤ j)
  hops_some u d k lu ld e =
      let f : Fewest (joins net) net.switches u d (Some k) =
      subst (Fewest (joins net) net.switches u d) e (hops_exact_lem net ok.inside u d lu ld) in
      (f.2, f.3, f.4)

  pub walk_hops : (u d j : ℕ) → u < net.switches → d < net.switches → Walk (joins net) net.switches u j d
      → (k : ℕ) × (hops net u d ≡ Some k)
  walk_hops u d j lu ld w = elim (option_cases (hops net u d)) [ inl e ↦ absurd (hops_none u d lu ld e j w) | inr r ↦ r ]

  -- Channel c leaves u for a switch one hop nearer to d.
  abbrev pub near : ℕ → ℕ → ℕ → Bool
  near u d c = elim (leaves net c u) [ true ↦ one_more (hops net (finish_of net c) d) (hops net u d) | false ↦ false ]

  near_parts : (u d c : ℕ) → near u d c ≡ true
      → (leaves net c u ≡ true) × (k : ℕ) × (hops net (finish_of net c) d ≡ Some k) × (hops net u d ≡ Some (suc k))
  near_parts u d c h = go (leaves net c u) refl h
    where
      go : (b : Bool) → leaves net c u ≡ b
          → (elim b as (λ _. Bool) [ true ↦ one_more (hops net (finish_of net c) d) (hops net u d) | false ↦ false ]) ≡ true
          → (leaves net c u ≡ true) × (k : ℕ) × (hops net (finish_of net c) d ≡ Some k) × (hops net u d ≡ Some (suc k))
      go true q h' = let r = one_more_parts (hops net (finish_of net c) d) (hops net u d) h' in (q, r.0, r.1, r.2)
      go false q h' = absurd (false≢true h')

  -- Where d is one hop away or more, some channel leads nearer.
  some_near : (u d k : ℕ) → u < net.switches → d < net.switches → hops net u d ≡ Some (suc k)
      → (c : ℕ) × (c < count net) × (near u d c ≡ true)
  some_near u d k lu ld e =
      let n = net.switches in
      let far = hops_some u d (suc k) lu ld e in
      let w = walk_first (joins net) n u k d ld far.1 in
      let v = w.0 in
      let r = any_at nowhere (λ c. eqb c.start u && eqb c.finish v) net.channels w.2 in
      let c = r.0 in
      let p = and_parts (eqb (start_of net c) u) (eqb (finish_of net c) v) r.2 in
      let there = walk_hops v d k w.1 ld w.3 in
      let rest = hops_some v d there.0 w.1 ld there.1 in
      let less = rest.2 k w.3 in
      let most = far.2 (suc there.0) (walk_after (joins net) n u v lu w.2 there.0 d rest.1) in
      let q : there.0 ≡ k = omega arith in
      let at : hops net (finish_of net c) d ≡ Some k =
      ap (λ (z : ℕ). hops net z d) (eqb-true (finish_of net c) v p.1) ∙ (there.1 ∙ ap (λ (z : ℕ). Some z) q) in
      let l = and_from (ltb c (count net)) (eqb (start_of net c) u) (lt-ltb c (count net) r.1) p.0 in (
        c,
        r.1,
        ap (λ (b : Bool). elim b as (λ _. Bool) [ true ↦ one_more (hops net (finish_of net c) d) (hops net u d) | false ↦ false ]) l
            ∙ (ap (λ (m : Option ℕ). one_more m (hops net u d)) at ∙ (ap (one_more (Some k)) e ∙ eq-eqb (suc k) (suc k) refl)),
      )

  -- The channel chosen, which exists, leaves u and leads one hop nearer.
  pub chosen_some : (u d c : ℕ) → chosen (nearer net u d) ≡ Some c
      → (c < count net) × (start_of net c ≡ u)
      × (k : ℕ) × (hops net (finish_of net c) d ≡ Some k) × (hops net u d ≡ Some (suc k))
  chosen_some u d c e =
      let e' : first (near u d) (below (count net)) ≡ Some c = sym (chosen_first (near u d) (below (count net))) ∙ e in
      let r = near_parts u d c (first_passes (near u d) (below (count net)) c e') in
      let l = leaves_parts net c u r.0 in
      (l.0, l.1, r.1, r.2, r.3)

  pub some_chosen : (u d k : ℕ) → u < net.switches → d < net.switches → hops net u d ≡ Some (suc k)
      → (c : ℕ) × (chosen (nearer net u d) ≡ Some c)
  some_chosen u d k lu ld e =
      elim (option_cases (chosen (nearer net u d))) [
        | inl q ↦
            let r = some_near u d k lu ld e in
            absurd (both_ways (near u d r.0)
            (first_none (near u d) (below (count net)) (sym (chosen_first (near u d) (below (count net))) ∙ q) r.0
            (is_in_below (count net) r.0 r.1))
            r.2)
        | inr q ↦ q
      ]

  -- The planned channel table holds the channels chosen.
  pub table_chosen : (lanes : List ℕ) (u d : ℕ) → is_pair net.switches u d ≡ true
      → (table_rule net.switches (hop_table net) lanes).next u d ≡ chosen (nearer net u d)
  table_chosen lanes u d p =
      square_next net.switches (λ u d. byte_of (chosen (nearer net u d))) lanes u d p
      ∙ byte_channel (chosen (nearer net u d)) (λ c e. let l = (chosen_some u d c e).0 in let f = ok.few in omega arith)

  module _ (rule : Rule) (reads : (u d : ℕ) → is_pair net.switches u d ≡ true → rule.next u d ≡ chosen (nearer net u d)) where
    nearer_way : (d : ℕ) → d < net.switches → (k u : ℕ) → u < net.switches → hops net u d ≡ Some k
        → (cs : List ℕ) × Way net rule d u cs × (length cs ≡ k)
    nearer_way d ld zero u lu e =
        ([], subst (λ (z : ℕ). Way net rule d z []) (sym (hops_some u d zero lu ld e).1) home, refl)
    nearer_way d ld (suc k) u lu e =
        let n = net.switches in
        let ne : u ≡ d → ⊥ = λ q. let least = (hops_some u d (suc k) lu ld e).2 0 q in omega arith in
        let c = some_chosen u d k lu ld e in
        let r = chosen_some u d c.0 c.1 in
        let q : Some (suc k) ≡ Some (suc r.2) = sym e ∙ r.4 in
        let same : r.2 ≡ k = cc in
        let there : hops net (finish_of net c.0) d ≡ Some k = r.3 ∙ ap (λ (z : ℕ). Some z) same in
        let both = and_from (ltb u n) (ltb d n) (lt-ltb u n lu) (lt-ltb d n ld) in
        let pair = and_from (ltb u n && ltb d n) (not (eqb u d)) both (not_from_false (eqb u d) (ne_eqb u d ne)) in
        let rest = nearer_way d ld k (finish_of net c.0) (ok.inside c.0 r.0).1 there in
        (c.0 ∷ rest.0, onto ne (reads u d pair ∙ c.1) r.0 r.1 rest.1, ap suc rest.2)

    -- A pair with a path arrives after as many channels as the hop count says.
    pub nearer_arrives : (s d k : ℕ) → is_pair net.switches s d ≡ true → hops net s d ≡ Some k
        → Arrives net rule s d × (length (route net rule s d) ≡ k)
    nearer_arrives s d k p e =
        let q = pair_parts net.switches s d p in
        let w = nearer_way d q.1 k s q.0 e in
        let small = (hops_some s d k q.0 q.1 e).0 in
        let short : length w.0 ≤ net.switches - 1 = let l = w.2 in omega arith in (
          record { way = w.0; goes = w.1; short = short },
          ap length (way_walk net rule d (net.switches - 1) s w.0 w.1 short).0 ∙ w.2,
        )
