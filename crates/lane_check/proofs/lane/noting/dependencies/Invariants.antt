use Rattle.std.proofs.Common.{◌≡◌}
use Rattle.model.specs.Net.{count}
use Rattle.model.specs.Routes.{lane_deps}
use Rattle.fabric.specs.Of.{net}
use Rattle.fabric.specs.Pairs.{left}
use Rattle.routing.proofs.Adding.{Adding}
use Rattle.lane_check.proofs.Adding.{deps_of}
use Rattle.lane_check.proofs.lane.noting.dependencies.Given as goal

abbrev pub invariant-loop-pair : goal.invariant-loop-pair
invariant-loop-pair g l = record {
  size : l.found.channels ≡ count (net l.fabric);
  adding : Adding l.initial.found l.found (lane_deps (net l.fabric) (g.R.RouteRule.maps l.rule) l.lane)
      (deps_of (net l.fabric) (g.R.RouteRule.maps l.rule) l.lane (left l.pair-iterator));
}
