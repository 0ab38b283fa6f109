use Rattle.std.proofs.Common.{arith}
use Rattle.std.proofs.lemmas.Grind.{common_steps}
use Rattle.fabric.proofs.Feeders.{length_feeders}
use Rattle.fabric.proofs.network.Fabric.feeder_count.Goals as goal

pub returns-clause-is : goal.returns-clause-is
returns-clause-is c = grind (arith, common_steps, length_feeders)
