-- What walking along a route answers.
use Rattle.std.specs.Prelude.{◌≡◌, ℕ, ◌<◌, cond, Some, None, Ok, Err, Option, Result}
use Rattle.model.specs.Net.{Net, count, start_of, finish_of, is_pair}
use Rattle.model.specs.Rules.{Rule}
use Rattle.model.specs.Routes.{Ending, arrives, stops, tires, route_ends}
use Rattle.model.specs.Refusals.{Refusal}
use Rattle.model.specs.Planner.{ending_refusal}
use Rattle.routing.specs.Faults.{rule_refusal}
use Rattle.routing.specs.declared.fault.RuleFault.{RuleFault}
use Rattle.routing.specs.declared.walk.Ending.{Ending as CodeEnding}
use Rattle.routing.specs.declared.walk.Ending.TheVariants.{Arrives, Stops, Tires}
use Rattle.routing.specs.declared.walk.Hop.{Hop}

-- The code's ending as the model's.
abbrev pub ending_of : CodeEnding → Ending
ending_of Arrives = arrives
ending_of (Stops u) = stops u
ending_of Tires = tires

abbrev pub channel_of : Hop → ℕ
channel_of x = x.channel

-- A hop at switch u: its channel exists, leaves u, and ends where the hop does, at a switch that exists.
pub record Leads (n : Net) (u : ℕ) (x : Hop) : Type 0 where
  pub there : x.channel < count n
  pub leaves : start_of n x.channel ≡ u
  pub ends : x.to ≡ finish_of n x.channel
  pub inside : x.to < n.switches

-- Channel c exists, and ends at switch u.
abbrev pub Comes : Net → ℕ → ℕ → Type 0
Comes n u c = (c < count n) × (finish_of n c ≡ u)

-- How the route of a pair ends; none where the two are no pair.
abbrev pub pair_ends : Net → Rule → ℕ → ℕ → Option Ending
pair_ends n rule s d = cond (is_pair n.switches s d) (Some (route_ends n rule s d)) None

-- Whether the route of switches s and d arrives, by how it ends; else the fault is that of its end.
abbrev pub JudgesRoute : ℕ → ℕ → Ending → Result (Unit {0}) RuleFault → Type 0
JudgesRoute s d e (Ok _) = e ≡ arrives
JudgesRoute s d e (Err f) = (r : Refusal) × (ending_refusal s d e ≡ Some r) × (rule_refusal f ≡ Some r)
