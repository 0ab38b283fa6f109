use Rattle.std.proofs.Common.{arith, sym}
use Rattle.std.proofs.lemmas.Grind.{common_steps}
use Rattle.fabric.specs.Channels.{feeders}
use Rattle.fabric.proofs.Feeders.{feeder_ends}
use Rattle.fabric.proofs.network.Fabric.feeder.Goals as goal

pub returns-then-ahead-eq0-clause-is : goal.returns-then-ahead-eq0-clause-is
unfolding feeders
returns-then-ahead-eq0-clause-is c = grind (arith, common_steps)

pub returns-clause-is : goal.returns-clause-is
unfolding feeders
returns-clause-is c = grind (arith, common_steps)

pub returns-clause-ends : goal.returns-clause-ends
returns-clause-ends c = rw (sym (returns-clause-is c)) at (feeder_ends c.args.self.now c.args.switch c.args.place)
