use Rattle.std.proofs.Common.{◌∙◌}
use Rattle.model.specs.Routes.{lane_deps}
use Rattle.fabric.specs.Of.{net}
use Rattle.fabric.specs.Pairs.{left, plain_pair}
use Rattle.lane_check.proofs.Adding.{adding_pair}
use Rattle.lane_check.proofs.lane.noting.dependencies.Goals as goal

pub loop-pair-preserved-then-is_of_lane : goal.loop-pair-preserved-then-is_of_lane
loop-pair-preserved-then-is_of_lane g c =
    let N = net c.args.fabric.now in
    let M = g.R.RouteRule.maps c.args.rule.now in
    let i = c.loop-pair.invariant in
    record {
      size = c.add_route.ensures.size ∙ i.size;
      adding = adding_pair N M c.args.lane c.none-found.result c.loop-pair.found c.add_route.new.self (lane_deps N M c.args.lane)
          (left c.loop-pair.pair-iterator) (left c.next.new.self) (plain_pair c.in-Some.pair) c.in-Some.ensures.steps.1
          c.if-is_of_lane.ensures (c.add_route.ensures.adds i.size) i.adding;
    }
