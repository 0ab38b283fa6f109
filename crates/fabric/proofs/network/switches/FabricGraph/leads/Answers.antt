use Rattle.std.proofs.Common.{inl, inr, sym, arith}
use Rattle.fabric.specs.Of.{net}
use Rattle.fabric.proofs.Joining.{from_none, to_none}
use Rattle.fabric.proofs.network.switches.FabricGraph.leads.Goals as goal

pub returns-then-from-ge256 : goal.returns-then-from-ge256
returns-then-from-ge256 c =
    let f = c.args.self.now in
    elim c.then-from-ge256.either [
      | inl l ↦ sym (from_none f.switches c.args.from c.args.to (net f).channels f.inside (omega (arith, l, f.sizes.1)))
      | inr r ↦ sym (to_none f.switches c.args.from c.args.to (net f).channels f.inside (omega (arith, r.1, f.sizes.1)))
    ]
