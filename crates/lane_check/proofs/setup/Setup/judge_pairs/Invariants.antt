use Rattle.std.proofs.Common.{◌≡◌}
use Rattle.model.specs.Verdicts.{pairs_verdict, verdict}
use Rattle.fabric.specs.Of.{net}
use Rattle.fabric.specs.Pairs.{left}
use Rattle.lane_check.specs.Checks.{plain_setup}
use Rattle.lane_check.proofs.setup.Setup.judge_pairs.Given as goal

abbrev pub invariant-loop-pair : goal.invariant-loop-pair
invariant-loop-pair g l = record {
  size : l.pair-iterator.switches ≡ (net l.self.fabric.now).switches;
  left : verdict (plain_setup g.R.RouteRule.maps l.self) ≡ pairs_verdict (net l.self.fabric.now) l.self.lanes.lanes (g.R.RouteRule.maps l.self.rule.now) (left l.pair-iterator);
}
