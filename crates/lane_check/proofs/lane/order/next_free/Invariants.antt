use Rattle.std.proofs.Common.{◌≡◌}
use Rattle.lane_check.specs.Orders.{waits, HeldBelow, Watched}
use Rattle.lane_check.proofs.lane.order.next_free.Given as goal

abbrev pub invariant-loop-channel : goal.invariant-loop-channel
invariant-loop-channel g l = record {
  watched : Watched (g.G.Graph.edge l.lane) l.watch;
  same : waits l.watch ≡ waits l.initial.watch;
  held : HeldBelow (g.G.Graph.edge l.lane) (waits l.initial.watch) (g.G.Graph.nodes l.lane) l.channel;
}
