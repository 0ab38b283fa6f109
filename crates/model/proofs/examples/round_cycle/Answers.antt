use Rattle.model.proofs.RoundRing.{round_cycle_lem}
use Rattle.model.proofs.examples.round_cycle.Goals as goal

pub returns : goal.returns
returns c = round_cycle_lem
