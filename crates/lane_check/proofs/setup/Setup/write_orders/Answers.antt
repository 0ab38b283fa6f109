use Rattle.std.proofs.Common.{ℕ, ◌∙◌, arith}
use Rattle.model.specs.Routes.{lane_deps}
use Rattle.model.proofs.Judging.{verdict_exact_lem}
use Rattle.lane_check.specs.Checks.{plain_setup}
use Rattle.lane_check.proofs.Laning.{wrote_none, wrote_more, lane_sorted, sorted_order, lane_room}
use Rattle.lane_check.proofs.setup.Setup.write_orders.Goals as goal

pub loop-lane-init : goal.loop-lane-init
loop-lane-init g c =
    wrote_none (plain_setup g.R.RouteRule.maps c.args.self.now) c.args.order.now

pub unwrap-list-requires : goal.unwrap-list-requires
unwrap-list-requires g c =
    let G = plain_setup g.R.RouteRule.maps c.args.self.now in
    let D = c.dependencies.ensures in
    lane_sorted G ((verdict_exact_lem G).0 c.requires.fine) c.loop-lane.lane c.dependencies.result.channels c.sort.result (omega (arith, c.get-lane-end.ensures.is)) D.size
    (c.sort.ensures (lane_deps G.net G.rule c.loop-lane.lane) D.each)

pub put-requires : goal.put-requires
put-requires g c =
    let G = plain_setup g.R.RouteRule.maps c.args.self.now in
    let ℓ : ℕ = c.loop-lane.lane in
    let D = c.dependencies.ensures in
    let is = c.deref.ensures.0 ∙ sorted_order G ℓ c.dependencies.result.channels c.sort.result c.unwrap-list.result D.size c.unwrap-list.ensures
    (c.sort.ensures (lane_deps G.net G.rule ℓ) D.each) in
    lane_room G ℓ c.channel_count-channels.result _ c.deref.result.now ((verdict_exact_lem G).0 c.requires.fine) (omega (arith, c.get-lane-end.ensures.is))
    c.channel_count-channels.ensures.is is (let room = c.requires.room in omega (arith, c.loop-lane.auto.order))

pub loop-lane-preserved : goal.loop-lane-preserved
loop-lane-preserved g c =
    let G = plain_setup g.R.RouteRule.maps c.args.self.now in
    let ℓ : ℕ = c.loop-lane.lane in
    let D = c.dependencies.ensures in
    let is = c.deref.ensures.0 ∙ sorted_order G ℓ c.dependencies.result.channels c.sort.result c.unwrap-list.result D.size c.unwrap-list.ensures
    (c.sort.ensures (lane_deps G.net G.rule ℓ) D.each) in
    wrote_more G ℓ c.channel_count-channels.result c.args.order.now c.loop-lane.order c.put.new.order c.deref.result.now
    ((verdict_exact_lem G).0 c.requires.fine) (omega (arith, c.get-lane-end.ensures.is)) c.channel_count-channels.ensures.is c.loop-lane.invariant is c.put.ensures
