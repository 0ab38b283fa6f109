use Rattle.std.proofs.Common.{◌≡◌, ℕ, Bool, true, None, rules, tests, arith}
use Rattle.graph.specs.Distances.{hops_to}
use Rattle.lane_check.proofs.Circling.{none_open}
use Rattle.lane_check.proofs.Ranging.{none_mapped}
use Rattle.lane_check.proofs.lane.cycle.way_round.Goals as goal

pub returns-in_err-last : goal.returns-in_err-last
returns-in_err-last g c =
    let e : ℕ → ℕ → Bool = g.G.Graph.edge c.args.lane.now in
    let row = c.distances_from-row.result in
    let n : ℕ = g.G.Graph.nodes c.args.lane.now in
    let none = none_mapped _ _ _ None (λ p x. Unit {0}) (λ b. e b c.args.channel ≡ true → hops_to row b ≡ None) c.in_err-last.ensures.runs (λ a r q k. search rules)
    (λ x k. search (rules, tests)) in
    rw c.from_residual.ensures
    (none_open e n row c.args.channel c.distances_from-row.ensures (omega arith)
    (λ b h. none b (omega arith) (omega (arith, h, c.node_count.ensures))))
