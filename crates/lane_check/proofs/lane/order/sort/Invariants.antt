use Rattle.lane_check.proofs.Sorting.{Turned}
use Rattle.lane_check.proofs.lane.order.sort.Given as goal

abbrev pub invariant-loop-taken : goal.invariant-loop-taken
invariant-loop-taken g l = Turned (g.G.Graph.nodes l.lane) (g.G.Graph.edge l.lane) l.order.items l.watch l._taken
