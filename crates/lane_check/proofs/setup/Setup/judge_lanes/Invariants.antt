use Rattle.std.proofs.Common.{◌≡◌}
use Rattle.lane_check.specs.Checks.{plain_setup}
use Rattle.lane_check.proofs.Laning.{Clear}
use Rattle.lane_check.proofs.setup.Setup.judge_lanes.Given as goal

abbrev pub invariant-loop-lane : goal.invariant-loop-lane
invariant-loop-lane g l = Clear (plain_setup g.R.RouteRule.maps l.self) l.lane × (l.cycle ≡ l.initial.cycle)
