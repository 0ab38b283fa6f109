use Rattle.model.proofs.Planning.{paths_exact_lem}
use Rattle.model.proofs.plans.paths_exact.Goals as goal

pub returns : goal.returns
returns c = paths_exact_lem
