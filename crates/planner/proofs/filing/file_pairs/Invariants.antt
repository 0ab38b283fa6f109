use Rattle.std.proofs.Common.{◌≡◌, ◌*◌}
use Rattle.arrayvec.specs.ArrayVec.{array_vec_len}
use Rattle.model.specs.Planner.{filed}
use Rattle.fabric.specs.Of.{net}
use Rattle.fabric.specs.Pairs.{left}
use Rattle.planner.specs.Drafts.{rule_of}
use Rattle.planner.proofs.FiledPairs.{Filing}
use Rattle.planner.proofs.filing.file_pairs.Given as goal

abbrev pub invariant-loop-pair : goal.invariant-loop-pair
invariant-loop-pair l = record {
  size : l.pair-iterator.switches ≡ (net l.draft.fabric.now).switches;
  long : array_vec_len l.table ≡ (net l.draft.fabric.now).switches * (net l.draft.fabric.now).switches;
  filing : Filing (net l.draft.fabric.now) (rule_of l.draft) l.draft.cells.items (filed (net l.draft.fabric.now) l.fn.lanes.lanes l.draft.cells.items) l.board l.table.items (left l.pair-iterator);
}
