use Rattle.std.proofs.Common.{◌≡◌}
use Rattle.model.specs.Planner.{routes_refusal}
use Rattle.model.specs.Routes.{pairs_of}
use Rattle.fabric.specs.Of.{net}
use Rattle.fabric.specs.Pairs.{left}
use Rattle.planner.specs.Drafts.{rule_of}
use Rattle.planner.proofs.judging.judge_routes.Given as goal

abbrev pub invariant-loop-pair : goal.invariant-loop-pair
invariant-loop-pair l = record {
  size : l.pair-iterator.switches ≡ (net l.draft.fabric.now).switches;
  left : routes_refusal (net l.draft.fabric.now) (rule_of l.draft) (pairs_of (net l.draft.fabric.now).switches) ≡ routes_refusal (net l.draft.fabric.now) (rule_of l.draft) (left l.pair-iterator);
}
