use Rattle.lane_check.proofs.Circling.{Trail}
use Rattle.lane_check.proofs.lane.cycle.write_round.Given as goal

abbrev pub invariant-loop-left : goal.invariant-loop-left
invariant-loop-left g l = Trail (g.G.Graph.edge l.lane) (g.G.Graph.nodes l.lane) l.round l.fn.cycle l.cycle l.left l.at
