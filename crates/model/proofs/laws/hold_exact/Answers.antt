use Rattle.model.proofs.Holding.{hold_exact_lem}
use Rattle.model.proofs.laws.hold_exact.Goals as goal

pub returns : goal.returns
returns c = hold_exact_lem
