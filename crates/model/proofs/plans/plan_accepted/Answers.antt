use Rattle.model.proofs.Planning.{plan_accepted_lem}
use Rattle.model.proofs.plans.plan_accepted.Goals as goal

pub returns : goal.returns
returns c = plan_accepted_lem
