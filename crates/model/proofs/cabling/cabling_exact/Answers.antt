use Rattle.model.proofs.LinkTests.{cabling_exact_lem}
use Rattle.model.proofs.cabling.cabling_exact.Goals as goal

pub returns : goal.returns
returns c = cabling_exact_lem
