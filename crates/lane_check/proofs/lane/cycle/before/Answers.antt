use Rattle.std.proofs.Common.{rules, tests, arith}
use Rattle.std.proofs.lemmas.Iterator.{first_from_Range}
use Rattle.lane_check.specs.Circles.{Before}
use Rattle.lane_check.proofs.Ranging.{found_some}
use Rattle.lane_check.proofs.lane.cycle.before.Goals as goal

pub unwrap-requires : goal.unwrap-requires
unwrap-requires g c =
    let e = g.G.Graph.edge c.args.lane.now in
    let b = c.requires.0 in
    let B = c.requires.1 in
    found_some _ c.find.result (first_from_Range _ _ _ c.find.result (λ x. Unit {0})
    (λ x. Before e (g.G.Graph.nodes c.args.lane.now) c.args.row.now c.args.hops c.args.to x → ⊥) c.find.ensures.ran (λ x q k. tt) (λ x q k. search (rules, tests)))
    (λ none. none b (omega arith) (omega (arith, B.inside, c.node_count.ensures)) B)
