use Rattle.graph.specs.Rounds.{Relaxed}
use Rattle.graph.proofs.search.relax.Given as goal

abbrev pub invariant-loop-to : goal.invariant-loop-to
invariant-loop-to g l = Relaxed (g.G.Graph.edge l.graph l.node) (g.G.Graph.nodes l.graph) l.to l.round l.initial.row l.row l.changed
