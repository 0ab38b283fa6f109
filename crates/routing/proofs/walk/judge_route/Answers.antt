use Rattle.std.proofs.Common.{sym, refl, ap, ◌∙◌}
use Rattle.model.specs.Planner.{ending_refusal}
use Rattle.routing.proofs.walk.judge_route.Goals as goal

pub returns-in-Stops : goal.returns-in-Stops
returns-in-Stops g c = (_, ap (ending_refusal c.args.pair.source c.args.pair.destination) (sym c.of.ensures.ends ∙ sym c.in-Stops.ensures), refl)

pub returns-in-Tires : goal.returns-in-Tires
returns-in-Tires g c = (_, ap (ending_refusal c.args.pair.source c.args.pair.destination) (sym c.of.ensures.ends ∙ sym c.in-Tires.ensures), refl)
