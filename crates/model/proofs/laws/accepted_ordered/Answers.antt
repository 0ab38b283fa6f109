use Rattle.model.proofs.Judging.{accepted_ordered_lem}
use Rattle.model.proofs.laws.accepted_ordered.Goals as goal

pub returns : goal.returns
returns c = accepted_ordered_lem
