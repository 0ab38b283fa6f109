-- The dependencies of a lane are exactly the neighbouring channels of its pairs' routes, and these channels exist.
use Rattle.std.proofs.Common.{◌≡◌, ℕ, ◌-◌, ◌<◌, Bool, true, not, ◌&&◌, eqb, ltb, List, [], ◌∷◌, ◌++◌, map, sym, refl, ap, ◌∙◌, subst, inl, inr}
use Rattle.std.proofs.lemmas.Bool.{and_parts, and_from, or_cases, or_left, or_right, eqb-true, eqb-false, ltb-true, ne_eqb, eq-eqb, false≢true, not-true, not_from_false}
use Rattle.model.specs.Lists.{below, any_of, all_of, keep, is_in}
use Rattle.model.specs.Net.{Net, count, is_pair}
use Rattle.model.specs.Rules.{Rule}
use Rattle.model.specs.Routes.{Pair, Edge, pairs_of, steps, has, route, lane_deps}
use Rattle.model.proofs.Members.{is_in_here, is_in_there, is_in_below, all_below, all_of_at, any_right, any_joined, any_keep, any_map, all_joined, all_map, all_keep, joined_from}
use Rattle.model.proofs.Walking.{walk_exists}

pub pair_parts : (n s d : ℕ) → is_pair n s d ≡ true → (s < n) × (d < n) × (s ≡ d → ⊥)
pair_parts n s d h =
    let p = and_parts (ltb s n && ltb d n) (not (eqb s d)) h in
    let q = and_parts (ltb s n) (ltb d n) p.0 in
    (ltb-true s n q.0, ltb-true d n q.1, eqb-false s d (not-true (eqb s d) p.1))

-- The pair (s, d) is among the pairs, and all of these are pairs.
abbrev pub is_the : ℕ → ℕ → Pair → Bool
is_the s d p = eqb s p.source && eqb d p.destination

abbrev pub pairly : ℕ → Pair → Bool
pairly n p = is_pair n p.source p.destination

abbrev pairs_from : ℕ → ℕ → List Pair
pairs_from n s = map (λ d. record { source = s; destination = d }) (keep (λ d. not (eqb s d)) (below n))

pub pair_in : (n s d : ℕ) → is_pair n s d ≡ true → any_of (is_the s d) (pairs_of n) ≡ true
pair_in n s d h =
    let p = pair_parts n s d h in
    any_joined (is_the s d) (pairs_from n) (λ y. eqb s y) (below n) (is_in_below n s p.0)
    (λ x e.
    any_map (is_the s d) (λ d. record { source = x; destination = d }) (λ y. eqb d y) (keep (λ d. not (eqb x d)) (below n))
    (any_keep (λ y. eqb d y) (λ y. not (eqb x y)) (below n) (is_in_below n d p.1)
    (λ y f. not_from_false (eqb x y) (ne_eqb x y (λ w. p.2 (eqb-true s x e ∙ (w ∙ sym (eqb-true d y f)))))))
    (λ y f. and_from (eqb s x) (eqb d y) e f))

pub all_pairs : (n : ℕ) → all_of (pairly n) (pairs_of n) ≡ true
all_pairs n =
    all_joined (pairly n) (pairs_from n) (λ s. ltb s n) (below n) (all_below n)
    (λ s i.
    all_map (pairly n) (λ d. record { source = s; destination = d }) (λ d. ltb d n && not (eqb s d)) (keep (λ d. not (eqb s d)) (below n))
    (all_keep (λ d. ltb d n) (λ d. not (eqb s d)) (below n) (all_below n))
    (λ d q.
    let p = and_parts (ltb d n) (not (eqb s d)) q in
    and_from (ltb s n && ltb d n) (not (eqb s d)) (and_from (ltb s n) (ltb d n) i p.0) p.1))

-- The steps of a list are its neighbours.
steps_mid : (c c' : ℕ) (pre post : List ℕ) → has (steps (pre ++ (c ∷ (c' ∷ post)))) c c' ≡ true
steps_mid c c' [] post =
    or_left (eqb c c && eqb c' c') (has (steps (c' ∷ post)) c c') (and_from (eqb c c) (eqb c' c') (eq-eqb c c refl) (eq-eqb c' c' refl))
steps_mid c c' (x ∷ []) post = or_right (eqb x c && eqb c c') (has (steps (c ∷ (c' ∷ post))) c c') (steps_mid c c' [] post)
steps_mid c c' (x ∷ (y ∷ pre)) post =
    or_right (eqb x c && eqb y c') (has (steps (y ∷ (pre ++ (c ∷ (c' ∷ post))))) c c') (steps_mid c c' (y ∷ pre) post)

steps_from : (c c' : ℕ) (cs : List ℕ) → has (steps cs) c c' ≡ true → (pre : List ℕ) × (post : List ℕ) × (cs ≡ pre ++ (c ∷ (c' ∷ post)))
steps_from c c' [] h = absurd (false≢true h)
steps_from c c' (x ∷ []) h = absurd (false≢true h)
steps_from c c' (x ∷ (y ∷ zs)) h =
    elim (or_cases (eqb x c && eqb y c') (has (steps (y ∷ zs)) c c') h) [
      | inl e ↦
          let p = and_parts (eqb x c) (eqb y c') e in
          let ex = eqb-true x c p.0 in
          let ey = eqb-true y c' p.1 in
          ([], zs, cc)
      | inr e ↦ let r = steps_from c c' (y ∷ zs) e in (x ∷ r.0, r.1, ap (λ (z : List ℕ). x ∷ z) r.2)
    ]

-- The channels that a pair takes one directly after the other are a dependency of its lane.
pub depends_from : (net : Net) (rule : Rule) (s d c c' : ℕ) (pre post : List ℕ)
    → is_pair net.switches s d ≡ true → route net rule s d ≡ pre ++ (c ∷ (c' ∷ post))
    → has (lane_deps net rule (rule.lane s d)) c c' ≡ true
depends_from net rule s d c c' pre post h w =
    any_joined (λ (e : Edge). eqb e.tail c && eqb e.head c') (λ p. steps (route net rule p.source p.destination)) (is_the s d)
    (keep is_in_lane (pairs_of net.switches))
    (any_keep (is_the s d) is_in_lane (pairs_of net.switches) (pair_in net.switches s d h)
    (λ p e. let q = the p e in eq-eqb (rule.lane p.source p.destination) (rule.lane s d) (cc)))
    (λ p e.
    let q = the p e in
    let w' : route net rule p.source p.destination ≡ pre ++ (c ∷ (c' ∷ post)) = cc in
    subst (λ (r : List ℕ). has (steps r) c c' ≡ true) (sym w') (steps_mid c c' pre post))
  where
    is_in_lane : Pair → Bool
    is_in_lane p = eqb (rule.lane p.source p.destination) (rule.lane s d)

    the : (p : Pair) → is_the s d p ≡ true → (s ≡ p.source) × (d ≡ p.destination)
    the p e =
        let q = and_parts (eqb s p.source) (eqb d p.destination) e in
        (eqb-true s p.source q.0, eqb-true d p.destination q.1)

-- Some pair of lane ℓ takes channel b and directly after it channel c.
pub record Successive (net : Net) (rule : Rule) (ℓ b c : ℕ) : Type 0 where
  pub source : ℕ
  pub destination : ℕ
  pub pair : is_pair net.switches source destination ≡ true
  pub in_lane : rule.lane source destination ≡ ℓ
  pub pre : List ℕ
  pub post : List ℕ
  pub way : route net rule source destination ≡ pre ++ (b ∷ (c ∷ post))

pub depends_on : (net : Net) (rule : Rule) (ℓ b c : ℕ) → has (lane_deps net rule ℓ) b c ≡ true → Successive net rule ℓ b c
depends_on net rule ℓ b c h =
    let r =
    joined_from (λ (e : Edge). eqb e.tail b && eqb e.head c) (λ p. steps (route net rule p.source p.destination))
    (λ p. pairly net.switches p && is_in_lane p) (keep is_in_lane (pairs_of net.switches))
    (all_keep (pairly net.switches) is_in_lane (pairs_of net.switches) (all_pairs net.switches)) h in
    let p = r.0 in
    let q = and_parts (pairly net.switches p) (is_in_lane p) r.1 in
    let m = steps_from b c (route net rule p.source p.destination) r.2 in
    record {
      source = p.source;
      destination = p.destination;
      pair = q.0;
      in_lane = eqb-true (rule.lane p.source p.destination) ℓ q.1;
      pre = m.0;
      post = m.1;
      way = m.2;
    }
  where
    is_in_lane : Pair → Bool
    is_in_lane p = eqb (rule.lane p.source p.destination) ℓ

-- Dependencies are between channels that exist.
pub deps_inside : (net : Net) (rule : Rule) (ℓ b c : ℕ) → has (lane_deps net rule ℓ) b c ≡ true → (b < count net) × (c < count net)
deps_inside net rule ℓ b c h =
    let r = depends_on net rule ℓ b c h in
    let all = walk_exists net rule (net.switches - 1) r.source r.destination in
    let all' : all_of (λ x. ltb x (count net)) (r.pre ++ (b ∷ (c ∷ r.post))) ≡ true =
    subst (λ (cs : List ℕ). all_of (λ x. ltb x (count net)) cs ≡ true) r.way all in
    let at : (x : ℕ) → is_in x (b ∷ (c ∷ r.post)) ≡ true → x < count net =
    λ x i. ltb-true x (count net)
    (all_of_at (λ x. ltb x (count net)) (r.pre ++ (b ∷ (c ∷ r.post))) all' x (any_right (λ y. eqb x y) r.pre (b ∷ (c ∷ r.post)) i)) in
    (at b (is_in_here b (c ∷ r.post)), at c (is_in_there c b (c ∷ r.post) (is_in_here c r.post)))
