use Rattle.std.proofs.Common.{arith}
use Rattle.lane_check.proofs.Circling.{nearer, trail_first, trail_more, trail_end}
use Rattle.lane_check.proofs.lane.cycle.write_round.Goals as goal

pub loop-left-init : goal.loop-left-init
loop-left-init g c =
    trail_first (g.G.Graph.edge c.args.lane.now) (g.G.Graph.nodes c.args.lane.now) c.args.round.now c.requires.way c.args.cycle.now c.requires.room

pub before-at-requires : goal.before-at-requires
before-at-requires g c =
    nearer (g.G.Graph.edge c.args.lane.now) (g.G.Graph.nodes c.args.lane.now) c.args.round.now c.requires.way c.loop-left.at c.loop-left.left
    _ c.loop-left.invariant.place (omega arith)

pub loop-left-preserved : goal.loop-left-preserved
loop-left-preserved g c =
    trail_more (g.G.Graph.edge c.args.lane.now) (g.G.Graph.nodes c.args.lane.now) c.args.round.now c.requires.way c.args.cycle.now c.requires.room
    c.loop-left.cycle c.loop-left.left _ c.loop-left.at c.before-at.result c.loop-left.invariant (omega arith) c.before-at.ensures

pub returns : goal.returns
returns g c =
    trail_end (g.G.Graph.edge c.args.lane.now) (g.G.Graph.nodes c.args.lane.now) c.args.round.now c.requires.way c.args.cycle.now
    c.loop-left.cycle c.loop-left.left c.loop-left.at c.loop-left.invariant (omega arith) (g.met.G.Graph.loopless c.args.lane.now)
