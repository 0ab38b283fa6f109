use Rattle.std.proofs.Common.{◌≤◌, length, arith}
use Rattle.graph.proofs.Spreading.{first, first_count, next, whole}
use Rattle.graph.proofs.search.spread.Goals as goal

pub loop-round-init : goal.loop-round-init
loop-round-init g c =
    let few : g.G.Graph.nodes c.args.graph.now ≤ length c.args.row.now = omega (arith, (g.met.G.Graph.few c.args.graph.now).1) in
    record { sound = first _ _ _ _ c.requires.blank c.requires.inside few; count = omega (arith, first_count _ _ _ c.requires.blank c.requires.inside few) }

pub loop-round-preserved : goal.loop-round-preserved
loop-round-preserved g c = record { sound = next _ _ _ _ _ _ _ c.loop-round.invariant.sound c.advance.ensures; count = omega (arith, c.if-not-advance.ensures.change) }

pub returns-then-not-advance : goal.returns-then-not-advance
returns-then-not-advance g c = whole _ _ _ _ _ _ c.requires.inside (omega arith) c.loop-round.invariant.sound c.if-not-advance.ensures
