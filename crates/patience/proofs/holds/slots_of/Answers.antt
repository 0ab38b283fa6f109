use Rattle.std.proofs.Common.{◌≡◌, ℕ, ap, ◌∙◌, rules, arith}
use Rattle.model.specs.Positions.{position_count}
use Rattle.fabric.specs.Of.{net}
use Rattle.patience.specs.Caps.{followed}
use Rattle.patience.proofs.Folding.{made_at}
use Rattle.patience.proofs.HoldRows.{followed_more}
use Rattle.patience.proofs.holds.slots_of.Goals as goal

pub loop-more-init : goal.loop-more-init
loop-more-init g c = λ x h.
    let made = made_at _ _ c.from_fn-slots.result 128 c.from_fn-slots.ensures.items (λ a r q k. search rules) x (record { positions = 0; hold = 0 }) (omega (arith, h, (g.met.G.Graph.few c.args.lane.now).1)) in
    search rules

pub loop-more-preserved : goal.loop-more-preserved
loop-more-preserved g c =
    followed_more (position_count (net c.args.fabric.now)) (g.G.Graph.edge c.args.lane.now) (g.G.Graph.nodes c.args.lane.now) c.loop-more._more
    c.loop-more.slots c.next_slots-slots.result c.loop-more.invariant c.next_slots-slots.ensures

pub returns : goal.returns
returns g c = λ x h.
    let e : c.loop-more._more ≡ g.G.Graph.nodes c.args.lane.now = omega (arith, c.node_count-more-end.ensures) in
    c.loop-more.invariant x h
    ∙ ap (λ (m : ℕ). followed (position_count (net c.args.fabric.now)) (g.G.Graph.edge c.args.lane.now) (g.G.Graph.nodes c.args.lane.now) m x) e
