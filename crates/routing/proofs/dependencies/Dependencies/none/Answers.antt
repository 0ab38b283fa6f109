use Rattle.std.proofs.Common.{arith}
use Rattle.routing.proofs.dependencies.Dependencies.none.Goals as goal

pub invariant_of-result-clause-few : goal.invariant_of-result-clause-few
invariant_of-result-clause-few c = grind arith
