use Rattle.model.proofs.Judging.{verdict_exact_lem}
use Rattle.model.proofs.laws.verdict_exact.Goals as goal

pub returns : goal.returns
returns c = verdict_exact_lem
