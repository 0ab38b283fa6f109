use Rattle.model.specs.Positions.{position_count}
use Rattle.fabric.specs.Of.{net}
use Rattle.patience.specs.Caps.{Row, followed}
use Rattle.patience.proofs.holds.slots_of.Given as goal

abbrev pub invariant-loop-more : goal.invariant-loop-more
invariant-loop-more g l = Row (followed (position_count (net l.fabric)) (g.G.Graph.edge l.lane) (g.G.Graph.nodes l.lane) l._more) (g.G.Graph.nodes l.lane) l.slots
