use Rattle.model.proofs.RoutesOnce.{route_onward_lem}
use Rattle.model.proofs.laws.route_onward.Goals as goal

pub returns : goal.returns
returns c = route_onward_lem
