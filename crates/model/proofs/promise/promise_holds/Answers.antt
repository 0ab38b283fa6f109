use Rattle.model.proofs.Promising.{promise}
use Rattle.model.proofs.promise.promise_holds.Goals as goal

pub returns : goal.returns
returns c = promise
