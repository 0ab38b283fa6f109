use Rattle.fabric.specs.Of.{net}
use Rattle.planner.proofs.Choosing.{Gathered}
use Rattle.planner.proofs.rows.HopRows.candidates.Given as goal

abbrev pub invariant-loop-channel : goal.invariant-loop-channel
invariant-loop-channel l = Gathered (net l.self.fabric.now) l.pair.source l.pair.destination l.channel l.list.items
