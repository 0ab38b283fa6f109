use Rattle.std.proofs.Common.{◌≡◌}
use Rattle.model.specs.Planner.{path_refusal}
use Rattle.model.specs.Routes.{pairs_of}
use Rattle.fabric.specs.Of.{net}
use Rattle.fabric.specs.Pairs.{left}
use Rattle.planner.proofs.judging.judge_paths.Given as goal

abbrev pub invariant-loop-pair : goal.invariant-loop-pair
invariant-loop-pair l = record {
  size : l.pair-iterator.switches ≡ (net l.rows.fabric.now).switches;
  left : path_refusal (net l.rows.fabric.now) (pairs_of (net l.rows.fabric.now).switches) ≡ path_refusal (net l.rows.fabric.now) (left l.pair-iterator);
}
