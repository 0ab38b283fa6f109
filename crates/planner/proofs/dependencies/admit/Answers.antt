use Rattle.std.proofs.Common.{refl, sym}
use Rattle.planner.proofs.Adding.{admits_new, admits_not}
use Rattle.planner.proofs.dependencies.admit.Goals as goal

pub returns-then-is_some : goal.returns-then-is_some
returns-then-is_some c = record {
  size = refl;
  admits = admits_not c.args.lane.now c.args.lane.now c.args.step.tail c.args.step.head _ c.hops.ensures (sym c.if-is_some.ensures);
}

pub returns : goal.returns
returns c = record {
  size = c.add.ensures.size;
  admits = admits_new c.args.lane.now c.add.new.self c.args.step _ c.requires.from c.requires.to c.requires.apart c.requires.free c.hops.ensures
      (sym c.if-is_some.ensures) c.add.ensures.size c.add.ensures.adds;
}
