use Rattle.fabric.specs.Of.{net}
use Rattle.planner.proofs.Squares.{Filled}
use Rattle.planner.proofs.draft.Draft.of.Given as goal

abbrev pub invariant-loop-place : goal.invariant-loop-place
invariant-loop-place g l = Filled (net l.fabric).switches (goal.F-post g l.byte) l.place l.cells.items
