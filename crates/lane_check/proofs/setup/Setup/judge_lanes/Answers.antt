use Rattle.std.proofs.Common.{ℕ, List, sym, refl, ◌∙◌, subst, arith}
use Rattle.model.specs.Routes.{lane_deps, depends}
use Rattle.routing.specs.Dependencies.{leads}
use Rattle.lane_check.specs.Checks.{plain_setup}
use Rattle.lane_check.specs.Circles.{Looped}
use Rattle.lane_check.proofs.Laning.{leads_cycle, looped_same, clear_none, clear_more, clear_cyclic, clear_all}
use Rattle.lane_check.proofs.setup.Setup.judge_lanes.Goals as goal

pub loop-lane-init : goal.loop-lane-init
loop-lane-init g c = (clear_none (plain_setup g.R.RouteRule.maps c.args.self.now) c.requires.paired, refl)

pub write_cycle-requires-clause-cyclic : goal.write_cycle-requires-clause-cyclic
write_cycle-requires-clause-cyclic g c =
    let G = plain_setup g.R.RouteRule.maps c.args.self.now in
    let D = c.dependencies-found.ensures in
    leads_cycle G.net G.rule c.loop-lane.lane c.dependencies-found.result D.size D.each
    (sym (c.sort.ensures (lane_deps G.net G.rule c.loop-lane.lane) D.each).0 ∙ c.if-is_none.ensures)

pub returns-then-is_none : goal.returns-then-is_none
returns-then-is_none g c =
    let G = plain_setup g.R.RouteRule.maps c.args.self.now in
    let ℓ : ℕ = c.loop-lane.lane in
    let d = c.dependencies-found.result in
    let D = c.dependencies-found.ensures in (
      ℓ,
      c.write_cycle.result,
      refl,
      clear_cyclic G ℓ d.channels (omega (arith, c.get-lane-end.ensures.is)) D.size
          (sym (c.sort.ensures (lane_deps G.net G.rule ℓ) D.each).0 ∙ c.if-is_none.ensures) c.loop-lane.invariant.0,
      subst (λ (was : List ℕ). Looped (depends G.net G.rule ℓ) c.write_cycle.result was c.write_cycle.new.cycle) c.loop-lane.invariant.1
          (looped_same (leads d) (depends G.net G.rule ℓ) D.each c.write_cycle.result c.loop-lane.cycle c.write_cycle.new.cycle c.write_cycle.ensures),
    )

pub loop-lane-preserved : goal.loop-lane-preserved
loop-lane-preserved g c =
    let G = plain_setup g.R.RouteRule.maps c.args.self.now in
    let ℓ : ℕ = c.loop-lane.lane in
    let D = c.dependencies-found.ensures in (
      clear_more G ℓ c.dependencies-found.result.channels (omega (arith, c.get-lane-end.ensures.is)) D.size
          (sym (c.sort.ensures (lane_deps G.net G.rule ℓ) D.each).0 ∙ c.if-is_none.ensures) c.loop-lane.invariant.0,
      c.loop-lane.invariant.1,
    )

pub returns : goal.returns
returns g c = (clear_all (plain_setup g.R.RouteRule.maps c.args.self.now) c.loop-lane.lane (omega (arith, c.get-lane-end.ensures.is)) c.loop-lane.invariant.0, c.loop-lane.invariant.1)
