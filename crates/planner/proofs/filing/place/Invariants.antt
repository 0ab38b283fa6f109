use Rattle.model.specs.Net.{count}
use Rattle.fabric.specs.Of.{net}
use Rattle.planner.specs.Drafts.{needs}
use Rattle.planner.proofs.Placing.{Refusing}
use Rattle.planner.proofs.filing.place.Given as goal

abbrev pub invariant-loop-lane : goal.invariant-loop-lane
invariant-loop-lane l = Refusing (count (net l.draft.fabric.now)) (needs l.draft l.pair) l.initial.board l.board l.lane
