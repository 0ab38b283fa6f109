use Rattle.std.proofs.Common.{◌≡◌}
use Rattle.model.specs.Routes.{route, steps}
use Rattle.fabric.specs.Of.{net}
use Rattle.routing.specs.Ways.{steps_left}
use Rattle.routing.proofs.Adding.{Adding}
use Rattle.routing.proofs.dependencies.Dependencies.add_route.Given as goal

abbrev pub invariant-loop-step : goal.invariant-loop-step
invariant-loop-step g l = record {
  size : l.self.channels ≡ l.initial.self.channels;
  fabric : l.step-iterator.rest.fabric.now ≡ l.fabric;
  adding : Adding l.initial.self l.self (steps (route (net l.fabric) (g.R.RouteRule.maps l.rule) l.fn.pair.source l.fn.pair.destination))
      (steps_left g.R.RouteRule.maps l.step-iterator);
}
