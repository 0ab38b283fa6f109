use Rattle.std.proofs.Common.{sym, ap, subst, arith}
use Rattle.model.specs.Net.{count}
use Rattle.fabric.specs.Of.{net}
use Rattle.fabric.specs.declared.network.Fabric.{Fabric}
use Rattle.routing.specs.Dependencies.{leads}
use Rattle.planner.specs.Cycles.{Acyclic}
use Rattle.planner.proofs.Adding.{noted_closes}
use Rattle.planner.proofs.dependencies.add_route.Goals as goal

pub admit-requires : goal.admit-requires
admit-requires c =
    let i = c.loop-step.invariant in
    let e = c.in-Some.ensures.steps in
    let q = ap (λ (f : Fabric). count (net f)) i.on in
    record {
      from = omega (arith, e.2.from, i.noted.sound.size, q);
      to = omega (arith, e.2.to, i.noted.sound.size, q);
      apart = e.2.apart;
      free = subst (Acyclic (leads c.loop-step.lane)) (sym i.noted.sound.size) i.noted.sound.free;
    }

pub returns-then-not-admit : goal.returns-then-not-admit
returns-then-not-admit c =
    let i = c.loop-step.invariant in
    let e = c.in-Some.ensures.steps in
    let q = ap (λ (f : Fabric). count (net f)) i.on in
    record {
      size = omega (arith, c.admit.ensures.size, i.noted.sound.size, c.requires.size);
      tried = noted_closes _ _ _ _ c.admit.new.lane c.in-Some.step _ (omega (arith, e.2.from, q)) (omega (arith, e.2.to, q)) (rw e.1 at i.noted) c.if-not-admit.ensures.admits;
    }
