use Rattle.graph.specs.Rounds.{Grown}
use Rattle.graph.proofs.search.advance.Given as goal

abbrev pub invariant-loop-node : goal.invariant-loop-node
invariant-loop-node g l = Grown (g.G.Graph.edge l.graph) (g.G.Graph.nodes l.graph) l.round l.node l.initial.row l.row l.changed
