use Rattle.model.proofs.Planning.{lanes_exact_lem}
use Rattle.model.proofs.plans.lanes_exact.Goals as goal

pub returns : goal.returns
returns c = lanes_exact_lem
