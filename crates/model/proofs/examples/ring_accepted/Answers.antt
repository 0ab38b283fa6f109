use Rattle.std.proofs.Common.{refl}
use Rattle.model.specs.Examples.{planned_ring}
use Rattle.model.proofs.Judging.{verdict_exact_lem}
use Rattle.model.proofs.examples.ring_accepted.Goals as goal

pub returns : goal.returns
returns c = (verdict_exact_lem planned_ring).0 refl
