use Rattle.model.proofs.PlannerHops.{hops_exact_lem}
use Rattle.model.proofs.laws.hops_exact.Goals as goal

pub returns : goal.returns
returns c = hops_exact_lem
