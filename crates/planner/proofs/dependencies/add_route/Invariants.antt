use Rattle.std.proofs.Common.{◌≡◌}
use Rattle.model.specs.Net.{count}
use Rattle.fabric.specs.Of.{net}
use Rattle.routing.specs.Ways.{steps_left}
use Rattle.planner.specs.Drafts.{rule_of, needs}
use Rattle.planner.proofs.Adding.{Noted}
use Rattle.planner.proofs.dependencies.add_route.Given as goal

abbrev pub invariant-loop-step : goal.invariant-loop-step
invariant-loop-step l = record {
  on : l.step-iterator.rest.fabric.now ≡ l.draft.fabric.now;
  noted : Noted (count (net l.draft.fabric.now)) (needs l.draft l.fn.pair) l.initial.lane l.lane (steps_left rule_of l.step-iterator);
}
