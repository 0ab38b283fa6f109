use Rattle.std.proofs.Common.{rules}
use Rattle.run.proofs.Keeping.{obeys}
use Rattle.run.proofs.run.Run.post.Goals as goal

pub returns-in_err-packet : goal.returns-in_err-packet
returns-in_err-packet g c = obeys _ _ _ _ _ (search rules)

pub returns-in_err-at : goal.returns-in_err-at
returns-in_err-at g c = obeys _ _ _ _ _ (search rules)

pub returns-in_err-admit : goal.returns-in_err-admit
returns-in_err-admit g c = obeys _ _ _ _ _ (search rules)

pub returns : goal.returns
returns g c = obeys _ _ _ _ _ (search rules)
