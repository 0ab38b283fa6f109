-- Plans: accepted, with shortest routes, each pair in its lowest lane; and what refusals 9 and 10 say.
use Rattle.std.proofs.Common.{◌≡◌, ℕ, suc, ◌+◌, ◌*◌, ◌<◌, ◌≤◌, true, cond, ◌⊎◌, List, [], ◌∷◌, length, get_or, is_some, Some, None, Option, sym, refl, ap, ◌∙◌, subst, inl, inr, arith}
use Rattle.std.proofs.lemmas.Bool.{cond-true}
use Rattle.model.specs.Net.{Net, is_pair}
use Rattle.model.specs.Refusals.{Layer, topology_layer, Refusal, refuse}
use Rattle.model.specs.Rules.{Rule, channel_byte, table_rule}
use Rattle.model.specs.Routes.{Pair, Ending, arrives, stops, tires, Arrives, pairs_of, route, route_ends}
use Rattle.model.specs.Planner.{Planned, tables, refused, hops, hop_table, copied, ending_refusal, otherwise, routes_refusal, path_refusal, filed, unless, planned}
use Rattle.model.specs.Verdicts.{Accepts}
use Rattle.model.specs.Plans.{Sound, plan_setup, InLowest, Apart, no_path, no_lane, ByTable, NoLaneFits, PlanAccepted, PlanShortest, PlanLowest, PathsExact, LanesExact}
use Rattle.model.proofs.Dependencies.{pair_parts}
use Rattle.model.proofs.Arriving.{ends_arrives}
use Rattle.model.proofs.PairPlaces.{place_in, UpTo, up_to_skip, up_to_more, up_to_none, up_to_all, earlier_place, on_pairs_lem}
use Rattle.model.proofs.Squares.{square_next}
use Rattle.model.proofs.NearerRoutes.{hops_none, hops_some, walk_hops, table_chosen, nearer_arrives}
use Rattle.model.proofs.FilingPairs.{Unfiled, FilingSays, filing_says}
use Rattle.model.proofs.FiledLanes.{lane_at_lem, in_lowest, fits_no_lane, filed_accepts}

-- The pair (s, d) has a path.
abbrev Pathed : Net → ℕ → ℕ → Type 0
Pathed net s d = (k : ℕ) × (hops net s d ≡ Some k)

-- What the test of paths says: every pair has one, or which is the first that has none.
pub record Pathless (net : Net) (r : Refusal) : Type 0 where
  pub source : ℕ
  pub destination : ℕ
  pub says : r ≡ refuse topology_layer 9 (source ∷ destination ∷ [])
  pub pair : is_pair net.switches source destination ≡ true
  pub none : hops net source destination ≡ None
  pub before : UpTo net.switches (Pathed net) (source * net.switches + destination)

abbrev PathsSay : Net → Option Refusal → Type 0
PathsSay net None = (s d : ℕ) → is_pair net.switches s d ≡ true → Pathed net s d
PathsSay net (Some r) = Pathless net r

paths_say : (net : Net) → PathsSay net (path_refusal net (pairs_of net.switches))
paths_say net =
    on_pairs_lem n (λ k ps. UpTo n (Pathed net) k → PathsSay net (path_refusal net ps))
    (λ s l ps ih done. ih (up_to_skip n (Pathed net) s l done)) more (up_to_all n (Pathed net)) (up_to_none n (Pathed net))
  where
    n : ℕ
    n = net.switches

    more : (s d : ℕ) → is_pair n s d ≡ true → (ps : List Pair)
        → (UpTo n (Pathed net) (suc (s * n + d)) → PathsSay net (path_refusal net ps))
        → UpTo n (Pathed net) (s * n + d) → PathsSay net (path_refusal net (record { source = s; destination = d } ∷ ps))
    more s d p ps ih done = go (hops net s d) refl
      where
        go : (m : Option ℕ) → hops net s d ≡ m
            → PathsSay net (cond (is_some m) (path_refusal net ps) (Some (refuse topology_layer 9 (s ∷ d ∷ []))))
        go None e = record { source = s; destination = d; says = refl; pair = p; none = e; before = done }
        go (Some k) e = ih (up_to_more n (Pathed net) s d p (k, e) done)

-- What the test of given routes says: every pair arrives, or a refusal by a number below 9.
abbrev RoutesSay : Net → Rule → Option Refusal → Type 0
RoutesSay net rule None = (s d : ℕ) → is_pair net.switches s d ≡ true → Arrives net rule s d
RoutesSay net rule (Some r) = r.number < 9

routes_say : (net : Net) (rule : Rule) → RoutesSay net rule (routes_refusal net rule (pairs_of net.switches))
routes_say net rule =
    on_pairs_lem n (λ k ps. UpTo n (Arrives net rule) k → RoutesSay net rule (routes_refusal net rule ps))
    (λ s l ps ih done. ih (up_to_skip n (Arrives net rule) s l done)) more
    (up_to_all n (Arrives net rule)) (up_to_none n (Arrives net rule))
  where
    n : ℕ
    n = net.switches

    more : (s d : ℕ) → is_pair n s d ≡ true → (ps : List Pair)
        → (UpTo n (Arrives net rule) (suc (s * n + d)) → RoutesSay net rule (routes_refusal net rule ps))
        → UpTo n (Arrives net rule) (s * n + d)
        → RoutesSay net rule (routes_refusal net rule (record { source = s; destination = d } ∷ ps))
    more s d p ps ih done = go (route_ends net rule s d) refl
      where
        go : (e : Ending) → route_ends net rule s d ≡ e
            → RoutesSay net rule (otherwise (ending_refusal s d e) (routes_refusal net rule ps))
        go arrives e = ih (up_to_more n (Arrives net rule) s d p (ends_arrives net rule s d e) done)
        go (stops u) e = omega arith
        go tires e = omega arith

-- The channel table that pairs are filed by, and the test before.
abbrev table_for : Net → Option (List ℕ) → List ℕ
table_for net None = hop_table net
table_for net (Some given) = copied net.switches given

abbrev refusal_for : Net → Option (List ℕ) → Option Refusal
refusal_for net None = path_refusal net (pairs_of net.switches)
refusal_for net (Some given) =
    routes_refusal net (table_rule net.switches (copied net.switches given) []) (pairs_of net.switches)

planned_is : (net : Net) (lanes : ℕ) (given : Option (List ℕ))
    → planned net lanes given ≡ unless (refusal_for net given) (filed net lanes (table_for net given))
planned_is net lanes None = refl
planned_is net lanes (Some given) = refl

abbrev rule_for : Net → Option (List ℕ) → Rule
rule_for net given = table_rule net.switches (table_for net given) []

abbrev AllArrive : Net → Option (List ℕ) → Type 0
AllArrive net given =
    (s d : ℕ) → is_pair net.switches s d ≡ true → Arrives net (rule_for net given) s d

-- What passes that test arrives; a refusal there has a number below 10.
all_arrive : (net : Net) → Sound net → (given : Option (List ℕ)) → refusal_for net given ≡ None → AllArrive net given
all_arrive net ok None e = λ s d p.
    let path = subst (PathsSay net) e (paths_say net) s d p in
    (nearer_arrives net ok (rule_for net None) (table_chosen net ok []) s d path.0 p path.1).0
all_arrive net ok (Some given) e = subst (RoutesSay net (rule_for net (Some given))) e (routes_say net (rule_for net (Some given)))

small_number : (net : Net) (given : Option (List ℕ)) (r : Refusal) → refusal_for net given ≡ Some r → r.number < 10
small_number net None r e =
    let w : r.number ≡ 9 = ap (λ (z : Refusal). z.number) (subst (PathsSay net) e (paths_say net)).says in omega arith
small_number net (Some given) r e =
    let rule = rule_for net (Some given) in let w : r.number < 9 = subst (RoutesSay net rule) e (routes_say net rule) in omega arith

-- Every pair arrives, and the answer is what filing says.
abbrev Filed : Net → ℕ → Option (List ℕ) → Planned → Type 0
Filed net lanes given out = AllArrive net given × FilingSays net (rule_for net given) lanes (table_for net given) out

-- The test refuses.
abbrev Untested : Net → Option (List ℕ) → Planned → Type 0
Untested net given out = (r : Refusal) × (refusal_for net given ≡ Some r) × (out ≡ refused r)

plan_says : (net : Net) → Sound net → (lanes : ℕ) (given : Option (List ℕ)) (out : Planned)
    → planned net lanes given ≡ out → Untested net given out ⊎ Filed net lanes given out
plan_says net ok lanes given out e = go (refusal_for net given) refl (sym (planned_is net lanes given) ∙ e)
  where
    go : (m : Option Refusal) → refusal_for net given ≡ m → unless m (filed net lanes (table_for net given)) ≡ out
        → Untested net given out ⊎ Filed net lanes given out
    go None q w =
        let table = table_for net given in
        let rule = rule_for net given in
        inr (all_arrive net ok given q, subst (FilingSays net rule lanes table) w (filing_says net rule lanes table))
    go (Some r) q w = inl (r, q, sym w)

tables_filed : (net : Net) → Sound net → (lanes : ℕ) (given : Option (List ℕ)) (table lane_table : List ℕ)
    → planned net lanes given ≡ tables table lane_table → Filed net lanes given (tables table lane_table)
tables_filed net ok lanes given table lane_table e =
    elim (plan_says net ok lanes given (tables table lane_table) e) [
      | inl r ↦ let w = r.2 in let z : ◌≡◌ {A = ℕ} 0 1 = cc in absurd (omega arith)
      | inr f ↦ f
    ]

pub plan_accepted_lem : PlanAccepted
plan_accepted_lem net lanes given table lane_table ok e =
    let f = tables_filed net ok lanes given table lane_table e in
    subst (λ (z : List ℕ). Accepts (plan_setup net lanes z lane_table)) (sym f.1.0)
    (filed_accepts net (table_for net given) f.0 lanes f.1.1 lane_table f.1.2)

pub plan_shortest_lem : PlanShortest
plan_shortest_lem net lanes table lane_table ok e s d p k w =
    let n = net.switches in
    let f = tables_filed net ok lanes None table lane_table e in
    let q = pair_parts n s d p in
    let far = walk_hops net ok s d k q.0 q.1 w in
    let least = (hops_some net ok s d far.0 q.0 q.1 far.1).2 k w in
    subst (λ (z : List ℕ). length (route net (table_rule n z lane_table) s d) ≤ k) (sym f.1.0)
    (let rule = table_rule n (table_for net None) lane_table in
    let len = (nearer_arrives net ok rule (table_chosen net ok lane_table) s d far.0 p far.1).1 in omega arith)

pub plan_lowest_lem : PlanLowest
plan_lowest_lem net lanes given table lane_table ok e s d p =
    let n = net.switches in
    let f = tables_filed net ok lanes given table lane_table e in
    subst (λ (z : List ℕ). InLowest net (table_rule n z lane_table) s d) (sym f.1.0)
    (in_lowest net (table_for net given) f.0 lanes lane_table s d p (f.1.2.filed s d p (place_in n s d p)))

-- The number of a refusal, and what holds at its place.
refused_number : (layer : Layer) (m : ℕ) (at : List ℕ) (r : Refusal) → refused (refuse layer m at) ≡ refused r → m ≡ r.number
refused_number layer m at r e = let same : refuse layer m at ≡ r = cc in ap (λ (z : Refusal). z.number) same

refused_at : (P : ℕ → ℕ → Type 0) (layer : Layer) (m s d a b : ℕ) (r : Refusal)
    → refused (refuse layer m (s ∷ d ∷ [])) ≡ refused r → r ≡ refuse layer m (a ∷ b ∷ []) → P a b → P s d
refused_at P layer m s d a b r e says h =
    let same : refuse layer m (s ∷ d ∷ []) ≡ refuse layer m (a ∷ b ∷ []) = cc in
    let at = ap (λ (z : Refusal). z.place) same in
    let first : a ≡ s = cc in
    let second : b ≡ d = cc in
    subst (λ (z : ℕ). P z d) first (subst (P a) second h)

-- (s, d) is the first pair without a path.
abbrev FirstApart : Net → ℕ → ℕ → Type 0
FirstApart net s d =
    (is_pair net.switches s d ≡ true) × Apart net s d
    × ((a b : ℕ) → is_pair net.switches a b ≡ true → (a < s) ⊎ ((a ≡ s) × (b < d)) → Apart net a b → ⊥)

pub paths_exact_lem : PathsExact
paths_exact_lem net lanes ok =
    record {
      first = λ s d e.
          elim (plan_says net ok lanes None (no_path s d) e) [
            | inl r ↦
                let h : Pathless net r.0 = subst (PathsSay net) r.1 (paths_say net) in
                refused_at (FirstApart net) topology_layer 9 s d h.source h.destination r.0 r.2 h.says (first_apart h)
            | inr f ↦ let ten = ap (λ (z : Refusal). z.number) f.1.says in absurd (omega arith)
          ];
      told = λ s d p apart. go s d p apart (refusal_for net None) refl;
    }
  where
    pathed : (s d : ℕ) → is_pair net.switches s d ≡ true → Pathed net s d → Apart net s d → ⊥
    pathed s d p path apart =
        let t = pair_parts net.switches s d p in apart path.0 (hops_some net ok s d path.0 t.0 t.1 path.1).1

    first_apart : {r : Refusal} (h : Pathless net r) → FirstApart net h.source h.destination
    first_apart h =
        let n = net.switches in
        let q = pair_parts n h.source h.destination h.pair in (
          h.pair,
          hops_none net ok h.source h.destination q.0 q.1 h.none,
          λ a b p l. pathed a b p (h.before a b p (earlier_place n a b h.source h.destination p l)),
        )

    go : (s d : ℕ) → is_pair net.switches s d ≡ true → Apart net s d → (m : Option Refusal) → refusal_for net None ≡ m
        → (a : ℕ) × (b : ℕ) × (planned net lanes None ≡ no_path a b)
    go s d p apart None e = absurd (pathed s d p (subst (PathsSay net) e (paths_say net) s d p) apart)
    go s d p apart (Some r) e =
        let h : Pathless net r = subst (PathsSay net) e (paths_say net) in (
          h.source,
          h.destination,
          ap (λ (m : Option Refusal). unless m (filed net lanes (hop_table net))) e ∙ ap (λ (z : Refusal). refused z) h.says,
        )

by_table : (net : Net) → Sound net → (given : Option (List ℕ)) (lane_table : List ℕ)
    → ByTable net given (table_rule net.switches (table_for net given) lane_table)
by_table net ok None lane_table = table_chosen net ok lane_table
by_table net ok (Some given) lane_table = λ u d p.
    let n = net.switches in
    square_next n (λ u d. get_or given (u * n + d) 255) lane_table u d p
    ∙ sym (cond-true (is_pair n u d) (channel_byte (get_or given (u * n + d) 255)) None p)

pub lanes_exact_lem : LanesExact
lanes_exact_lem net lanes given s d ok e =
    elim (plan_says net ok lanes given (no_lane s d) e) [
      | inl r ↦
          let ten : 10 ≡ r.0.number = refused_number topology_layer 10 (s ∷ d ∷ []) r.0 r.2 in
          absurd (omega (arith, small_number net given r.0 r.1))
      | inr f ↦
          let h = f.1 in
          refused_at (NoLaneFits net lanes given) topology_layer 10 s d h.source h.destination
          (refuse topology_layer 10 (s ∷ d ∷ [])) refl h.says (none_fits f.0 h)
    ]
  where
    none_fits : {r : Refusal} → AllArrive net given → (h : Unfiled net (rule_for net given) lanes r)
        → NoLaneFits net lanes given h.source h.destination
    none_fits arrive h =
        let n = net.switches in
        let table = table_for net given in
        record {
          rule = table_rule n table h.lanes;
          table = by_table net ok given h.lanes;
          pair = h.pair;
          before = λ a b p l.
              let f = h.before a b p (earlier_place n a b h.source h.destination p l) in (
                subst (λ (z : ℕ). z < lanes) (sym (lane_at_lem net table h.lanes a b p)) f.exists,
                in_lowest net table arrive lanes h.lanes a b p f,
              );
          none = λ m l. fits_no_lane net table arrive lanes h.lanes h.source h.destination h.pair m (h.none m l);
        }
