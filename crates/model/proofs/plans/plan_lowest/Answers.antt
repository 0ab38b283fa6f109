use Rattle.model.proofs.Planning.{plan_lowest_lem}
use Rattle.model.proofs.plans.plan_lowest.Goals as goal

pub returns : goal.returns
returns c = plan_lowest_lem
