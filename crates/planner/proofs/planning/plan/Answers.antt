use Rattle.std.proofs.Common.{◌≡◌, ℕ, false, ◌&&◌, [], leb, refl, arith}
use Rattle.std.proofs.lemmas.Bool.Decides.{nat_tests}
use Rattle.std.proofs.lemmas.Result.{err_from_is_err_and}
use Rattle.model.specs.Refusals.{refuse, call_layer}
use Rattle.fabric.specs.Lanes.{IsLaneCount}
use Rattle.planner.proofs.planning.plan.Goals as goal

-- The lane count is tested first.
no_count : (n : ℕ) → (IsLaneCount n → ⊥) → (leb 1 n && leb n 8) ≡ false
no_count n h = grind (arith, nat_tests)

pub returns-in_err-lanes : goal.returns-in_err-lanes
returns-in_err-lanes c =
    let p = err_from_is_err_and c.from_residual.result c.from_residual.ensures.1 in
    let f = c.in_err-lanes.ensures in
    rw (p.1, p.2) (refuse call_layer 14 [], rw (no_count c.args.lanes f.1) refl, f.0, refl, refl)
