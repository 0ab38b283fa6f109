use Rattle.std.proofs.Common.{rules, arith}
use Rattle.patience.proofs.Folding.{made_at}
use Rattle.patience.proofs.holds.next_slots.Goals as goal

pub returns : goal.returns
returns g c = λ x h.
    let made = made_at _ _ c.from_fn.result 128 c.from_fn.ensures.items (λ a r q k. search rules) x (record { positions = 0; hold = 0 }) (omega (arith, h, (g.met.G.Graph.few c.args.lane.now).1)) in
    search rules
