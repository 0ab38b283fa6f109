use Rattle.lane_check.specs.Checks.{plain_setup}
use Rattle.lane_check.proofs.Laning.{Wrote}
use Rattle.lane_check.proofs.setup.Setup.write_orders.Given as goal

abbrev pub invariant-loop-lane : goal.invariant-loop-lane
invariant-loop-lane g l = Wrote (plain_setup g.R.RouteRule.maps l.self) l.initial.order l.lane l.order
