use Rattle.model.proofs.Planning.{plan_shortest_lem}
use Rattle.model.proofs.plans.plan_shortest.Goals as goal

pub returns : goal.returns
returns c = plan_shortest_lem
