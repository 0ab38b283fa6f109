-- What the check says of a setup.
use Rattle.std.specs.Prelude.{◌≡◌, ℕ, ◌<◌, Bool, true, false, cond, List, [], ◌∷◌, ◌≢◌, nat_lt}
use Rattle.model.specs.Lists.{below}
use Rattle.model.specs.Net.{Net, count, is_pair}
use Rattle.model.specs.Rules.{Rule, Setup}
use Rattle.model.specs.Routes.{Pair, Ending, arrives, stops, tires, Arrives, route_ends, pairs_of, lane_deps, depends, is_cycle}
use Rattle.model.specs.Order.{completes}

-- The check accepts a setup: every pair arrives, in a lane below the count, and no lane has a cycle.
pub record Accepts (g : Setup) : Type 0 where
  pub arrive : (s d : ℕ) → is_pair g.net.switches s d ≡ true → Arrives g.net g.rule s d
  pub in_lane : (s d : ℕ) → is_pair g.net.switches s d ≡ true → g.rule.lane s d < g.lanes
  pub acyclic : (ℓ : ℕ) → ℓ < g.lanes → (cs : List ℕ) → is_cycle (depends g.net g.rule ℓ) cs ≢ true

-- The verdict by the order of tests: each pair by source and destination (5 where its route stops, at which switch; 6 where the
-- destination is not reached; 7 where its lane is not below the count), then the lanes ascending (8, the lowest with a cycle).
pub data Verdict : Type 0 where
  fine : Verdict
  stopped : ℕ → ℕ → ℕ → Verdict
  unreached : ℕ → ℕ → Verdict
  laneless : ℕ → ℕ → Verdict
  cyclic : ℕ → Verdict

-- What a pair's ending and lane say; `rest` where both are right.
abbrev pub pair_verdict : ℕ → ℕ → Bool → Ending → Verdict → Verdict
pair_verdict s d laned arrives rest = cond laned rest (laneless s d)
pair_verdict s d laned (stops u) rest = stopped s d u
pair_verdict s d laned tires rest = unreached s d

abbrev pub lanes_verdict : Net → Rule → List ℕ → Verdict
lanes_verdict net rule [] = fine
lanes_verdict net rule (ℓ ∷ ℓs) =
    elim (completes (count net) (lane_deps net rule ℓ)) [ true ↦ lanes_verdict net rule ℓs | false ↦ cyclic ℓ ]

abbrev pub pairs_verdict : Net → ℕ → Rule → List Pair → Verdict
pairs_verdict net lanes rule [] = lanes_verdict net rule (below lanes)
pairs_verdict net lanes rule (p ∷ ps) =
    pair_verdict p.source p.destination (nat_lt (rule.lane p.source p.destination) lanes) (route_ends net rule p.source p.destination)
    (pairs_verdict net lanes rule ps)

abbrev pub verdict : Setup → Verdict
verdict g = pairs_verdict g.net g.lanes g.rule (pairs_of g.net.switches)
