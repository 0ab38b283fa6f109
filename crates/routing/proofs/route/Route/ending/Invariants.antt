use Rattle.std.proofs.Common.{◌≡◌}
use Rattle.routing.specs.Ways.{ends_as}
use Rattle.routing.proofs.route.Route.ending.Given as goal

abbrev pub invariant-loop : goal.invariant-loop
invariant-loop g l = ends_as g.R.RouteRule.maps l.self ≡ ends_as g.R.RouteRule.maps l.initial.self
