use Rattle.model.proofs.Judging.{cyclic_lowest_lem}
use Rattle.model.proofs.laws.cyclic_lowest.Goals as goal

pub returns : goal.returns
returns c = cyclic_lowest_lem
