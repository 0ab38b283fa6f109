use Rattle.std.proofs.Common.{rules}
use Rattle.run.proofs.Keeping.{obeys}
use Rattle.run.proofs.run.Run.serve.Goals as goal

pub returns-in_err-site : goal.returns-in_err-site
returns-in_err-site g c = obeys _ _ _ _ _ (search rules)

pub returns : goal.returns
returns g c = obeys _ _ _ _ _ (search rules)
