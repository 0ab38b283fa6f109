use Rattle.std.proofs.Common.{◌≡◌, ◌+◌, ◌≤◌}
use Rattle.model.specs.Routes.{route}
use Rattle.model.specs.Waits.{total}
use Rattle.fabric.specs.Of.{net}
use Rattle.routing.specs.Ways.{way}
use Rattle.patience.specs.Caps.{capped, costs}
use Rattle.patience.proofs.routes.route_cost.Given as goal

abbrev pub invariant-loop-hop : goal.invariant-loop-hop
invariant-loop-hop g l = record {
  most : l.cost ≤ 4294967295;
  told : capped (l.cost + total (costs l.slots) (way g.R.RouteRule.maps l.hop-iterator))
      ≡ capped (1 + total (costs l.slots) (route (net l.fabric) (g.R.RouteRule.maps l.rule) l.fn.pair.source l.fn.pair.destination));
}
