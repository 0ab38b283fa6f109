use Rattle.model.proofs.Cycles.{cycle_exact_lem}
use Rattle.model.proofs.laws.cycle_exact.Goals as goal

pub returns : goal.returns
returns c = cycle_exact_lem
