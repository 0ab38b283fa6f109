use Rattle.std.proofs.Common.{arith}
use Rattle.fabric.specs.Of.{net}
use Rattle.planner.proofs.Squares.{filled_more, filled_all}
use Rattle.planner.proofs.draft.Draft.of.Goals as goal

pub loop-place-preserved : goal.loop-place-preserved
loop-place-preserved g c =
    let s = c.switch_count-switches.ensures in
    filled_more (net c.args.fabric.now).switches c.switch_count-switches.result c.loop-place.place c.byte_at.result _ c.loop-place.cells.items c.push.new.self.items
    c.loop-place.invariant c.push.ensures.items c.byte_at.ensures s.is (omega arith) (omega arith)

pub returns-clause-table : goal.returns-clause-table
returns-clause-table g c = λ f G.
    let s = c.switch_count-switches.ensures in
    filled_all (net c.args.fabric.now).switches c.switch_count-switches.result c.loop-place.place _ f c.loop-place.cells.items c.loop-place.invariant G s.is
    (omega arith) (omega arith) (omega arith)
