use Rattle.model.proofs.Ordering.{order_exact_lem}
use Rattle.model.proofs.laws.order_exact.Goals as goal

pub returns : goal.returns
returns c = order_exact_lem
