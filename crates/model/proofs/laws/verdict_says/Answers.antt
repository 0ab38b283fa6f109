use Rattle.model.proofs.Judging.{verdict_says_lem}
use Rattle.model.proofs.laws.verdict_says.Goals as goal

pub returns : goal.returns
returns c = verdict_says_lem
