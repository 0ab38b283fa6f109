use Rattle.std.proofs.Common.{ℕ, ap, ◌∙◌}
use Rattle.model.specs.Routes.{depends}
use Rattle.routing.specs.Dependencies.{leads}
use Rattle.lane_check.specs.Checks.{setup_of}
use Rattle.patience.proofs.Telling.{tells}
use Rattle.patience.proofs.patience.pair_patience.Goals as goal

pub returns : goal.returns
returns g c = λ lanes.
    let G = setup_of c.args.fabric.now lanes (g.R.RouteRule.maps c.args.rule.now) in
    let d = c.dependencies.result in
    let D = c.dependencies.ensures in
    tells G c.args.pair.source c.args.pair.destination d.channels c.route_cost.result (leads d) c.slots_of-slots.result D.size
    (λ b x. D.each b x ∙ ap (λ (ℓ : ℕ). depends G.net G.rule ℓ b x) (c.from-lane.ensures ∙ c.lane.ensures))
    c.slots_of-slots.ensures c.route_cost.ensures
