use Rattle.model.proofs.Unseen.{places_unseen_lem}
use Rattle.model.proofs.promise.places_unseen.Goals as goal

pub returns : goal.returns
returns c = places_unseen_lem
