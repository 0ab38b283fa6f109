use Rattle.std.proofs.Common.{◌≡◌, ℕ, Bool, true, false, rules, tests}
use Rattle.std.proofs.lemmas.Iterator.{first_from_Range}
use Rattle.lane_check.specs.Orders.{waits, blocks}
use Rattle.lane_check.proofs.lane.order.first_blocker.Goals as goal

pub returns : goal.returns
returns g c =
    let e : ℕ → ℕ → Bool = g.G.Graph.edge c.args.lane.now in
    let w : ℕ → Bool = waits c.args.watch.now in
    rw (← c.node_count.ensures, ← c.from.ensures)
    (first_from_Range _ _ _ c.find.result (λ x. blocks e w c.args.channel x ≡ true) (λ x. blocks e w c.args.channel x ≡ false) c.find.ensures.ran
    (λ x q k. search (rules, tests)) (λ x q k. search (rules, tests)))
