-- The rule of a channel table in the making, and what its routes need of a lane.
use Rattle.std.specs.Prelude.{ℕ, Bool, []}
use Rattle.model.specs.Rules.{Rule, table_rule}
use Rattle.model.specs.Routes.{route, steps, has}
use Rattle.fabric.specs.Of.{net}
use Rattle.fabric.specs.declared.pair.Pair.{Pair}
use Rattle.planner.specs.declared.draft.Draft.{Draft}

-- Its channels, and no lanes.
abbrev pub rule_of : Draft → Rule
rule_of x = table_rule (net x.fabric.now).switches x.cells.items []

-- The dependencies of the route of a pair.
abbrev pub needs : Draft → Pair → ℕ → ℕ → Bool
needs x p = has (steps (route (net x.fabric.now) (rule_of x) p.source p.destination))
