-- A way comes to no switch twice and takes no channel twice; so no dependency leads back to its own channel.
use Rattle.std.proofs.Common.{◌≡◌, ℕ, Bool, true, false, List, [], ◌∷◌, ◌++◌, map, length, sym, refl, ap, ◌∙◌, subst, arith, length-append}
use Rattle.model.specs.Lists.{is_in, different}
use Rattle.model.specs.Net.{Net, count, finish_of, is_pair}
use Rattle.model.specs.Rules.{Rule}
use Rattle.model.specs.Routes.{Way, onto, Arrives, has, route, lane_deps}
use Rattle.model.specs.Laws.{RouteOnce, RouteOnward, Loopless}
use Rattle.model.proofs.Members.{is_in_here, is_in_at, is_in_there, different_more, different_parts, different_mid, different_map, map_from}
use Rattle.model.proofs.Dependencies.{depends_on, deps_inside}
use Rattle.model.proofs.Arriving.{route_way, way_drop, way_same}

module _ (net : Net) (rule : Rule) (d : ℕ) where
  -- A way does not come back to the switch where it begins.
  no_return : (u : ℕ) (cs : List ℕ) → Way net rule d u cs → is_in u (map (finish_of net) cs) ≡ true → ⊥
  no_return u cs w i =
      let m = map_from (finish_of net) u cs i in
      let t = way_drop net rule d u m.1 (m.0 ∷ m.2) (subst (λ (z : List ℕ). Way net rule d u z) m.3 w) in
      again m.0 m.1 m.2 m.3 m.4 t.0 t.1
    where
      again : (x : ℕ) (pre post : List ℕ) → cs ≡ pre ++ (x ∷ post) → finish_of net x ≡ u → (v : ℕ) → Way net rule d v (x ∷ post) → ⊥
      again x pre post e f v (onto ne nx lt st w') =
          let l₁ = ap length (way_same net rule d (finish_of net x) u post cs w' w f) in
          let l₂ = ap length e in
          let l₃ = length-append pre (x ∷ post) in
          omega arith

  pub switches_differ : (u : ℕ) (cs : List ℕ) → Way net rule d u cs → different (u ∷ map (finish_of net) cs) ≡ true
  switches_differ u [] w = refl
  switches_differ u (c ∷ cs) (onto ne e lt st w) =
      different_more u (map (finish_of net) (c ∷ cs)) (no_return u (c ∷ cs) (onto ne e lt st w))
      (switches_differ (finish_of net c) cs w)

  pub channels_differ : (u : ℕ) (cs : List ℕ) → Way net rule d u cs → different cs ≡ true
  channels_differ u cs w =
      different_map (finish_of net) cs (different_parts u (map (finish_of net) cs) (switches_differ u cs w)).1

pub route_once_lem : RouteOnce
route_once_lem g a s d p =
    let w = route_way g.net g.rule s d (a.arrive s d p) in
    let cs = route g.net g.rule s d in
    (switches_differ g.net g.rule d s cs w, channels_differ g.net g.rule d s cs w)

pub route_onward_lem : RouteOnward
route_onward_lem g a s d p xs ys b c e f =
    let w = route_way g.net g.rule s d (a.arrive s d p) in
    let t = way_drop g.net g.rule d s xs (b ∷ (c ∷ ys)) (subst (λ (z : List ℕ). Way g.net g.rule d s z) e w) in
    back t.0 t.1
  where
    back : (v : ℕ) → Way g.net g.rule d v (b ∷ (c ∷ ys)) → ⊥
    back v (onto ne nx lt st w) =
        no_return g.net g.rule d v (b ∷ (c ∷ ys)) (onto ne nx lt st w)
        (is_in_there v (finish_of g.net b) (finish_of g.net c ∷ map (finish_of g.net) ys)
        (is_in_at v (finish_of g.net c) (map (finish_of g.net) ys) (sym st ∙ sym f)))

-- Where every pair arrives, the dependencies of each lane are between different channels that exist.
pub lane_loopless : (net : Net) (rule : Rule) → ((s d : ℕ) → is_pair net.switches s d ≡ true → Arrives net rule s d)
    → (ℓ : ℕ) → Loopless (count net) (lane_deps net rule ℓ)
lane_loopless net rule arr ℓ = record { inside = deps_inside net rule ℓ; apart = λ c. none c (has (lane_deps net rule ℓ) c c) refl }
  where
    none : (c : ℕ) (b : Bool) → has (lane_deps net rule ℓ) c c ≡ b → b ≡ false
    none c false h = refl
    none c true h =
        let r = depends_on net rule ℓ c c h in
        let w = route_way net rule r.source r.destination (arr r.source r.destination r.pair) in
        let q =
        subst (λ (z : List ℕ). different z ≡ true) r.way
        (channels_differ net rule r.destination r.source (route net rule r.source r.destination) w) in
        absurd ((different_mid c r.pre (c ∷ r.post) q).1 (is_in_here c r.post))
