use Rattle.model.proofs.RoutesOnce.{route_once_lem}
use Rattle.model.proofs.laws.route_once.Goals as goal

pub returns : goal.returns
returns c = route_once_lem
