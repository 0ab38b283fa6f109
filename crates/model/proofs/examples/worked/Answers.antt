use Rattle.std.proofs.Common.{refl}
use Rattle.model.specs.Examples.{planned_ring}
use Rattle.model.proofs.Judging.{verdict_exact_lem}
use Rattle.model.proofs.RoundRing.{round_cycle_lem}
use Rattle.model.proofs.examples.worked.Goals as goal

pub returns : goal.returns
returns c =
    record {
      ring_planned = refl;
      ring_order = refl;
      ring_patience = (refl, refl, refl);
      ring_accepted = (verdict_exact_lem planned_ring).0 refl;
      round_two_lanes = refl;
      round_one_lane = refl;
      round_cycle = round_cycle_lem;
      one_link_patience = refl;
      grid_routes = (refl, refl);
      session = refl;
    }
