use Rattle.std.proofs.Common.{sym, arith}
use Rattle.lane_check.proofs.Sorting.{turned_none, turned_stuck, turned_more, turned_all}
use Rattle.lane_check.proofs.lane.order.sort.Goals as goal

pub loop-taken-init : goal.loop-taken-init
loop-taken-init g c =
    rw c.new-order.ensures (turned_none (g.G.Graph.nodes c.args.lane.now) (g.G.Graph.edge c.args.lane.now) (g.met.G.Graph.few c.args.lane.now).1)

pub returns-in_err-channel : goal.returns-in_err-channel
returns-in_err-channel g c = λ es same.
    rw c.from_residual.ensures (
      sym (turned_stuck (g.G.Graph.nodes c.args.lane.now) (g.G.Graph.edge c.args.lane.now) (g.met.G.Graph.few c.args.lane.now).1
          c.loop-taken.order.items c.loop-taken.watch c.loop-taken._taken c.loop-taken.invariant (omega (arith, c.node_count-taken-end.ensures))
          c.in_err-channel.ensures.free es same),
      tt,
    )

pub loop-taken-preserved : goal.loop-taken-preserved
loop-taken-preserved g c =
    let s = c.in_ok-channel.ensures in
    rw c.push.ensures.items
    (turned_more (g.G.Graph.nodes c.args.lane.now) (g.G.Graph.edge c.args.lane.now) (g.met.G.Graph.few c.args.lane.now).1
    c.loop-taken.order.items c.loop-taken.watch c.loop-taken._taken c.loop-taken.invariant c.next_free.new.watch
    c.in_ok-channel.channel (omega (arith, c.node_count-taken-end.ensures)) s.free s.same (omega arith) s.watched)

pub returns : goal.returns
returns g c = λ es same.
    let t = turned_all (g.G.Graph.nodes c.args.lane.now) (g.G.Graph.edge c.args.lane.now) (g.met.G.Graph.few c.args.lane.now).1
    c.loop-taken.order.items c.loop-taken.watch c.loop-taken._taken c.loop-taken.invariant (omega (arith, c.node_count-taken-end.ensures)) es same in
    (sym t.0, t.1)
