use Rattle.std.proofs.Common.{◌+◌, ◌<◌}
use Rattle.graph.specs.Rounds.{unreached}
use Rattle.graph.proofs.Spreading.{Sound}
use Rattle.graph.proofs.search.spread.Given as goal

abbrev pub invariant-loop-round : goal.invariant-loop-round
invariant-loop-round g l = record { sound : Sound (g.G.Graph.edge l.graph) (g.G.Graph.nodes l.graph) l.from l.round l.row; count : l.round + unreached l.row (g.G.Graph.nodes l.graph) < g.G.Graph.nodes l.graph }
