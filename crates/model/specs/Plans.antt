-- What holds of plans, by relations.
use Rattle.std.specs.Prelude.{◌≡◌, ℕ, ◌<◌, ◌≤◌, Bool, true, ◌&&◌, ◌||◌, ◌⊎◌, List, [], ◌∷◌, ◌++◌, length, Some, None, Option, ◌==◌, ◌≢◌, nat_eq, nat_lt}
use Rattle.model.specs.Lists.{keep, joined}
use Rattle.model.specs.Net.{Net, count, start_of, finish_of, joins, is_pair}
use Rattle.model.specs.Refusals.{refuse, topology_layer}
use Rattle.model.specs.Rules.{Rule, Setup, table_rule}
use Rattle.model.specs.Routes.{Pair, Edge, pairs_of, steps, has, route, is_cycle}
use Rattle.model.specs.Verdicts.{Accepts}
use Rattle.model.specs.Walks.{Walk}
use Rattle.model.specs.Planner.{Planned, tables, refused, planned, chosen, nearer}

-- A fabric whose channels join two different switches that exist, few enough that a byte below 255 names each.
pub record Sound (net : Net) : Type 0 where
  pub few : count net ≤ 255
  pub inside : (c : ℕ) → c < count net → (start_of net c < net.switches) × (finish_of net c < net.switches)
  pub apart : (c : ℕ) → c < count net → start_of net c ≢ finish_of net c

-- The setup of planned tables.
abbrev pub plan_setup : Net → ℕ → List ℕ → List ℕ → Setup
plan_setup net lanes hop_table lane_table = record { net = net; lanes = lanes; rule = table_rule net.switches hop_table lane_table }

-- A plan is accepted with the lane count that it was made for, whether its channel table was given or not.
abbrev pub PlanAccepted : Type 0
PlanAccepted = (net : Net) (lanes : ℕ) (given : Option (List ℕ)) (hop_table lane_table : List ℕ) → Sound net
    → planned net lanes given ≡ tables hop_table lane_table → Accepts (plan_setup net lanes hop_table lane_table)

-- No path is shorter than a route of a plan made without a given table.
abbrev pub PlanShortest : Type 0
PlanShortest = (net : Net) (lanes : ℕ) (hop_table lane_table : List ℕ) → Sound net
    → planned net lanes None ≡ tables hop_table lane_table
    → (s d : ℕ) → is_pair net.switches s d ≡ true
    → (k : ℕ) → Walk (joins net) net.switches s k d → length (route net (table_rule net.switches hop_table lane_table) s d) ≤ k

-- The pair p comes before (s, d), by source and then destination.
abbrev pub is_earlier : ℕ → ℕ → Pair → Bool
is_earlier s d p = nat_lt p.source s || (p.source == s && nat_lt p.destination d)

-- The dependencies of lane ℓ by the pairs before (s, d), and the pair's own.
abbrev pub filed_with : Net → Rule → ℕ → ℕ → ℕ → List Edge
filed_with net rule s d ℓ =
    steps (route net rule s d)
    ++ joined (λ p. steps (route net rule p.source p.destination))
    (keep (λ p. nat_eq (rule.lane p.source p.destination) ℓ) (keep (is_earlier s d) (pairs_of net.switches)))

-- Dependencies close a cycle.
abbrev pub Closes : List Edge → Type 0
Closes es = (cs : List ℕ) × (is_cycle (has es) cs ≡ true)

-- The pair (s, d) lies in the lowest lane in which no cycle closes with the pairs filed before it.
pub record InLowest (net : Net) (rule : Rule) (s d : ℕ) : Type 0 where
  pub fits : Closes (filed_with net rule s d (rule.lane s d)) → ⊥
  pub lowest : (m : ℕ) → m < rule.lane s d → Closes (filed_with net rule s d m)

abbrev pub PlanLowest : Type 0
PlanLowest = (net : Net) (lanes : ℕ) (given : Option (List ℕ)) (hop_table lane_table : List ℕ) → Sound net
    → planned net lanes given ≡ tables hop_table lane_table
    → (s d : ℕ) → is_pair net.switches s d ≡ true → InLowest net (table_rule net.switches hop_table lane_table) s d

-- No walk of any length leads from s to d.
abbrev pub Apart : Net → ℕ → ℕ → Type 0
Apart net s d = (k : ℕ) → Walk (joins net) net.switches s k d → ⊥

abbrev pub no_path : ℕ → ℕ → Planned
no_path s d = refused (refuse topology_layer 9 (s ∷ d ∷ []))

-- Refusal 9 exactly when some pair has no path, and then at the first such pair.
pub record PathsTold (net : Net) (lanes : ℕ) : Type 0 where
  pub first : (s d : ℕ) → planned net lanes None ≡ no_path s d
      → (is_pair net.switches s d ≡ true) × Apart net s d
      × ((a b : ℕ) → is_pair net.switches a b ≡ true → (a < s) ⊎ ((a ≡ s) × (b < d)) → Apart net a b → ⊥)
  pub told : (s d : ℕ) → is_pair net.switches s d ≡ true → Apart net s d → (a : ℕ) × (b : ℕ) × (planned net lanes None ≡ no_path a b)

abbrev pub PathsExact : Type 0
PathsExact = (net : Net) (lanes : ℕ) → Sound net → PathsTold net lanes

abbrev pub no_lane : ℕ → ℕ → Planned
no_lane s d = refused (refuse topology_layer 10 (s ∷ d ∷ []))

-- The channel table that pairs are filed by.
abbrev pub ByTable : Net → Option (List ℕ) → Rule → Type 0
ByTable net None rule = (u d : ℕ) → is_pair net.switches u d ≡ true
    → rule.next u d ≡ chosen (nearer net u d)
ByTable net (Some given) rule = (u d : ℕ) → is_pair net.switches u d ≡ true
    → rule.next u d ≡ (table_rule net.switches given []).next u d

-- Refusal 10 at (s, d): the pairs before it can be filed, each in its lowest lane, which exists, and then (s, d) fits no lane.
pub record NoLaneFits (net : Net) (lanes : ℕ) (given : Option (List ℕ)) (s d : ℕ) : Type 0 where
  pub rule : Rule
  pub table : ByTable net given rule
  pub pair : is_pair net.switches s d ≡ true
  pub before : (a b : ℕ) → is_pair net.switches a b ≡ true → (a < s) ⊎ ((a ≡ s) × (b < d))
      → (rule.lane a b < lanes) × InLowest net rule a b
  pub none : (m : ℕ) → m < lanes → Closes (filed_with net rule s d m)

abbrev pub LanesExact : Type 0
LanesExact = (net : Net) (lanes : ℕ) (given : Option (List ℕ)) (s d : ℕ) → Sound net
    → planned net lanes given ≡ no_lane s d → NoLaneFits net lanes given s d
