use Rattle.std.proofs.Common.{refl, rules}
use Rattle.run.specs.Sites.{slot_shown}
use Rattle.run.specs.Runs.{setup_of}
use Rattle.run.proofs.Keeping.{shows}
use Rattle.run.proofs.run.Run.look.Goals as goal

pub returns : goal.returns
returns g c =
    shows _ _ _ (λ s. slot_shown (setup_of g.R.RouteRule.maps c.args.self.now) s c.args.channel c.args.lane) _ (λ _. refl) (search rules)
