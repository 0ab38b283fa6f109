-- The lanes of filed pairs: each pair in its lowest lane, and where all are filed the setup is accepted.
use Rattle.std.proofs.Common.{◌≡◌, ℕ, ◌+◌, ◌*◌, ◌<◌, Bool, true, false, cond, ◌&&◌, ◌||◌, eqb, ltb, List, [], ◌∷◌, ◌++◌, get_or, sym, refl, ap, ◌∙◌, subst, inl, inr}
use Rattle.std.proofs.lemmas.Bool.{and_parts, and_from, eqb-true, eq-eqb, both_ways, cond-true, cases_Bool}
use Rattle.model.specs.Lists.{keep, joined}
use Rattle.model.specs.Net.{Net, count, is_pair}
use Rattle.model.specs.Rules.{Rule, table_rule}
use Rattle.model.specs.Routes.{Pair, Edge, Arrives, pairs_of, steps, has, route, lane_deps}
use Rattle.model.specs.Order.{completes}
use Rattle.model.specs.Verdicts.{Accepts}
use Rattle.model.specs.Laws.{Loopless}
use Rattle.model.specs.Plans.{plan_setup, is_earlier, filed_with, Closes, InLowest}
use Rattle.model.proofs.Members.{any_joined, any_keep, all_keep, joined_from}
use Rattle.model.proofs.Dependencies.{is_the, pairly, pair_in, all_pairs}
use Rattle.model.proofs.RoutesOnce.{lane_loopless}
use Rattle.model.proofs.Cycles.{cycle_exact_lem}
use Rattle.model.proofs.EdgeSets.{Exactly, exactly_same, exactly_from, exactly_append, completes_same}
use Rattle.model.proofs.PairPlaces.{earlier_place, place_earlier, earlier_told, tell_earlier, place_in}
use Rattle.model.proofs.SameHops.{route_same, arrives_same}
use Rattle.model.proofs.FilingPairs.{pair_deps, Held, HeldWith, LowestLane, InItsLane, Filing}

pub keep_keep : {A : Type 0} (f g : A → Bool) (xs : List A) → keep f (keep g xs) ≡ keep (λ x. g x && f x) xs
keep_keep f g [] = refl
keep_keep {A} f g (x ∷ xs) = go (keep_keep f g xs) (g x)
  where
    go : keep f (keep g xs) ≡ keep (λ x. g x && f x) xs → (b : Bool)
        → keep f (cond b (x ∷ keep g xs) (keep g xs)) ≡ cond (b && f x) (x ∷ keep (λ x. g x && f x) xs) (keep (λ x. g x && f x) xs)
    go ih true = ap (λ (z : List A). cond (f x) (x ∷ z) z) ih
    go ih false = ih

joined_same : {A B : Type 0} (f g : A → List B) → ((x : A) → f x ≡ g x) → (xs : List A) → joined f xs ≡ joined g xs
joined_same f g h [] = refl
joined_same {A} {B} f g h (x ∷ xs) =
    ap (λ (z : List B). z ++ joined f xs) (h x) ∙ ap (λ (z : List B). g x ++ z) (joined_same f g h xs)

-- The dependencies of the pairs that pass a test.
pub pairs_exactly : (n : ℕ) (deps : ℕ → ℕ → List Edge) (f : ℕ → ℕ → Bool)
    → Exactly (λ b c. (s : ℕ) × (d : ℕ) × (is_pair n s d ≡ true) × (f s d ≡ true) × (has (deps s d) b c ≡ true))
    (joined (λ p. deps p.source p.destination) (keep (λ p. f p.source p.destination) (pairs_of n)))
pairs_exactly n deps f b c = (
  λ h.
      let r =
      joined_from is_this each (λ p. pairly n p && passes p) (keep passes (pairs_of n))
      (all_keep (pairly n) passes (pairs_of n) (all_pairs n)) h in
      let q = and_parts (pairly n r.0) (passes r.0) r.1 in
      (r.0.source, r.0.destination, q.0, q.1, r.2),
  λ h.
      let s = h.0 in
      let d = h.1 in
      any_joined is_this each (is_the s d) (keep passes (pairs_of n))
      (any_keep (is_the s d) passes (pairs_of n) (pair_in n s d h.2) (λ p e. let q = the s d p e in sym (both f q.0 q.1) ∙ h.3))
      (λ p e. let q = the s d p e in subst (λ (z : List Edge). has z b c ≡ true) (both deps q.0 q.1) h.4),
)
  where
    is_this : Edge → Bool
    is_this e = eqb e.tail b && eqb e.head c

    each : Pair → List Edge
    each p = deps p.source p.destination

    passes : Pair → Bool
    passes p = f p.source p.destination

    the : (s d : ℕ) (p : Pair) → is_the s d p ≡ true → (s ≡ p.source) × (d ≡ p.destination)
    the s d p e =
        let q = and_parts (eqb s p.source) (eqb d p.destination) e in
        (eqb-true s p.source q.0, eqb-true d p.destination q.1)

    both : {A : Type 0} (g : ℕ → ℕ → A) {s d s' d' : ℕ} → s ≡ s' → d ≡ d' → g s d ≡ g s' d'
    both g e e' = cc

-- Fewer edges are loopless too.
loopless_fewer : (n : ℕ) (es es' : List Edge) → ((b c : ℕ) → has es b c ≡ true → has es' b c ≡ true) → Loopless n es' → Loopless n es
loopless_fewer n es es' sub l =
    record {
      inside = λ b c h. l.inside b c (sub b c h);
      apart = λ c. elim (cases_Bool (has es c c)) [ inl h ↦ absurd (both_ways (has es' c c) (l.apart c) (sub c c h)) | inr h ↦ h ];
    }

module _ (net : Net) (table : List ℕ) where
  abbrev bare : Rule
  bare = table_rule net.switches table []

  -- The pairs that pass a test, which says that they have a place below k and lie in lane i.
  held_exactly : (lanes : List ℕ) (k i : ℕ) (f : ℕ → ℕ → Bool)
      → ((s d : ℕ) → is_pair net.switches s d ≡ true
      → (f s d ≡ true → (s * net.switches + d < k) × (get_or lanes (s * net.switches + d) 255 ≡ i))
      × ((s * net.switches + d < k) × (get_or lanes (s * net.switches + d) 255 ≡ i) → f s d ≡ true))
      → Exactly (Held net bare lanes k i)
      (joined (λ p. steps (route net (table_rule net.switches table lanes) p.source p.destination))
      (keep (λ p. f p.source p.destination) (pairs_of net.switches)))
  held_exactly lanes k i f tells =
      let n = net.switches in
      let chosen = keep (λ p. f p.source p.destination) (pairs_of n) in
      let same : joined (λ p. pair_deps net bare p.source p.destination) chosen
      ≡ joined (λ p. steps (route net (table_rule n table lanes) p.source p.destination)) chosen =
      joined_same (λ p. pair_deps net bare p.source p.destination)
      (λ p. steps (route net (table_rule n table lanes) p.source p.destination))
      (λ p. ap steps (route_same net bare (table_rule n table lanes) (λ u d. refl) p.source p.destination)) chosen in
      subst (Exactly (Held net bare lanes k i)) same
      (exactly_from
      (λ b c. (s : ℕ) × (d : ℕ) × (is_pair n s d ≡ true) × (f s d ≡ true) × (has (pair_deps net bare s d) b c ≡ true))
      (Held net bare lanes k i)
      (joined (λ p. pair_deps net bare p.source p.destination) chosen)
      (λ b c. (
        λ h.
            let t = (tells h.0 h.1 h.2).0 h.3 in
            record { source = h.0; destination = h.1; pair = h.2; before = t.0; in_lane = t.1; takes = h.4 },
        λ h. (h.source, h.destination, h.pair, (tells h.source h.destination h.pair).1 (h.before, h.in_lane), h.takes),
      ))
      (pairs_exactly n (pair_deps net bare) f))

  -- The lane of a pair.
  pub lane_at_lem : (lanes : List ℕ) (s d : ℕ) → is_pair net.switches s d ≡ true
      → (table_rule net.switches table lanes).lane s d ≡ get_or lanes (s * net.switches + d) 255
  lane_at_lem lanes s d p = cond-true (is_pair net.switches s d) (get_or lanes (s * net.switches + d) 255) 255 p

  lane_exactly : (lanes : List ℕ) (i : ℕ)
      → Exactly (Held net bare lanes (net.switches * net.switches) i) (lane_deps net (table_rule net.switches table lanes) i)
  lane_exactly lanes i =
      let rule = table_rule net.switches table lanes in
      held_exactly lanes (net.switches * net.switches) i (λ s d. eqb (rule.lane s d) i)
      (λ s d p. (
        λ e. (place_in net.switches s d p, sym (lane_at_lem lanes s d p) ∙ eqb-true (rule.lane s d) i e),
        λ h. eq-eqb (rule.lane s d) i (lane_at_lem lanes s d p ∙ h.1),
      ))

  filed_exactly : (lanes : List ℕ) (s d i : ℕ) → is_pair net.switches s d ≡ true
      → Exactly (HeldWith net bare lanes s d i) (filed_with net (table_rule net.switches table lanes) s d i)
  filed_exactly lanes s d i pair =
      let n = net.switches in
      let rule = table_rule n table lanes in
      let deps = λ (p : Pair). steps (route net rule p.source p.destination) in
      let is_in_lane : Pair → Bool = λ p. eqb (rule.lane p.source p.destination) i in
      let rest =
      held_exactly lanes (s * n + d) i (λ a b. (ltb a s || (eqb a s && ltb b d)) && eqb (rule.lane a b) i)
      (λ a b p. (
        λ e.
            let q = and_parts (is_earlier s d (record { source = a; destination = b })) (eqb (rule.lane a b) i) e in (
              earlier_place n a b s d p (earlier_told s d (record { source = a; destination = b }) q.0),
              sym (lane_at_lem lanes a b p) ∙ eqb-true (rule.lane a b) i q.1,
            ),
        λ h.
            and_from (is_earlier s d (record { source = a; destination = b })) (eqb (rule.lane a b) i)
            (tell_earlier s d (record { source = a; destination = b }) (place_earlier n a b s d pair h.0))
            (eq-eqb (rule.lane a b) i (lane_at_lem lanes a b p ∙ h.1)),
      )) in
      let all = exactly_append (Held net bare lanes (s * n + d) i) (pair_deps net bare s d)
      (joined deps (keep (λ p. is_earlier s d p && is_in_lane p) (pairs_of n))) rest in
      subst (Exactly (HeldWith net bare lanes s d i))
      (ap (λ (z : List ℕ). steps z ++ joined deps (keep (λ p. is_earlier s d p && is_in_lane p) (pairs_of n)))
      (route_same net bare rule (λ u d. refl) s d)
      ∙ ap (λ (z : List Pair). steps (route net rule s d) ++ joined deps z) (sym (keep_keep is_in_lane (is_earlier s d) (pairs_of n))))
      all

  module _ (arrive : (s d : ℕ) → is_pair net.switches s d ≡ true → Arrives net bare s d) where
    -- Dependencies of pairs that arrive close a cycle exactly when the order is not complete.
    closes : (es : List Edge)
        → ((b c : ℕ) → has es b c ≡ true
        → (s : ℕ) × (d : ℕ) × (is_pair net.switches s d ≡ true) × (has (pair_deps net bare s d) b c ≡ true))
        → (completes (count net) es ≡ true → Closes es → ⊥) × (completes (count net) es ≡ false → Closes es)
    closes es from =
        let cycles =
        cycle_exact_lem (count net) es
        (loopless_fewer (count net) es (lane_deps net bare 255)
        (λ b c h.
        let r = from b c h in
        (lane_exactly [] 255 b c).1
        (record {
          source = r.0;
          destination = r.1;
          pair = r.2;
          before = place_in net.switches r.0 r.1 r.2;
          in_lane = refl;
          takes = r.3;
        }))
        (lane_loopless net bare arrive 255)) in
        (λ e c. cycles.0 e c.0 c.1, cycles.1)

    filed_closes : (lanes : List ℕ) (s d i : ℕ) → is_pair net.switches s d ≡ true
        → let es = filed_with net (table_rule net.switches table lanes) s d i in
        (completes (count net) es ≡ true → Closes es → ⊥) × (completes (count net) es ≡ false → Closes es)
    filed_closes lanes s d i p =
        closes (filed_with net (table_rule net.switches table lanes) s d i)
        (λ b c h.
        elim ((filed_exactly lanes s d i p b c).0 h) [ inl q ↦ (s, d, p, q) | inr q ↦ (q.source, q.destination, q.pair, q.takes) ])

    module _ (lane_total : ℕ) where
      pub in_lowest : (lanes : List ℕ) (s d : ℕ) → is_pair net.switches s d ≡ true → InItsLane net bare lane_total lanes s d
          → InLowest net (table_rule net.switches table lanes) s d
      in_lowest lanes s d p f =
          let rule = table_rule net.switches table lanes in
          let f' : LowestLane net bare lane_total lanes s d (rule.lane s d) =
          subst (LowestLane net bare lane_total lanes s d) (sym (lane_at_lem lanes s d p)) f in
          record {
            fits =
                (filed_closes lanes s d (rule.lane s d) p).0
                (f'.fits (filed_with net rule s d (rule.lane s d)) (filed_exactly lanes s d (rule.lane s d) p));
            lowest = λ m l. (filed_closes lanes s d m p).1 (f'.lower m l (filed_with net rule s d m) (filed_exactly lanes s d m p));
          }

      pub fits_no_lane : (lanes : List ℕ) (s d : ℕ) → is_pair net.switches s d ≡ true → (m : ℕ)
          → ((es : List Edge) → Exactly (HeldWith net bare lanes s d m) es → completes (count net) es ≡ false)
          → Closes (filed_with net (table_rule net.switches table lanes) s d m)
      fits_no_lane lanes s d p m none =
          (filed_closes lanes s d m p).1 (none (filed_with net (table_rule net.switches table lanes) s d m) (filed_exactly lanes s d m p))

      pub filed_accepts : (ess : List (List Edge)) (lanes : List ℕ)
          → Filing net bare lane_total (net.switches * net.switches) ess lanes → Accepts (plan_setup net lane_total table lanes)
      filed_accepts ess lanes f =
          let n = net.switches in
          let rule = table_rule n table lanes in
          let arrive' : (s d : ℕ) → is_pair n s d ≡ true → Arrives net rule s d =
          λ s d p. arrives_same net bare rule (λ u d. refl) s d (arrive s d p) in
          record {
            arrive = arrive';
            in_lane = λ s d p. subst (λ (z : ℕ). z < lane_total) (sym (lane_at_lem lanes s d p)) (f.filed s d p (place_in n s d p)).exists;
            acyclic = λ ℓ l.
                (cycle_exact_lem (count net) (lane_deps net rule ℓ) (lane_loopless net rule arrive' ℓ)).0
                (completes_same (count net) (lane_deps net rule ℓ) (get_or ess ℓ [])
                (exactly_same (Held net bare lanes (n * n) ℓ) (lane_deps net rule ℓ) (get_or ess ℓ []) (lane_exactly lanes ℓ) (f.holds ℓ l))
                ∙ f.whole ℓ l);
          }
