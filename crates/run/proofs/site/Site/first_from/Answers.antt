use Rattle.std.proofs.Common.{rules, tests}
use Rattle.run.specs.View.{view}
use Rattle.run.specs.Runs.{contending, positions_of}
use Rattle.run.proofs.Finding.{found}
use Rattle.run.proofs.site.Site.first_from.Goals as goal

pub returns : goal.returns
returns g c =
    found c.successors.result.f _ (positions_of c.args.self.now) (contending g.R.RouteRule.maps c.args.self.now (view c.args.board.now)) _ c.args.from _ _ _ c.find.ensures.ran (search rules) (search rules) (search rules) (λ x o e' q. search (rules, tests)) (λ x b h' q. search (rules, tests))
