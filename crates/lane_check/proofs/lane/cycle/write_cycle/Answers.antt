use Rattle.std.proofs.Common.{rules, arith}
use Rattle.lane_check.specs.Circles.{Open}
use Rattle.lane_check.proofs.Circling.{not_all_open}
use Rattle.lane_check.proofs.Ranging.{found_some, none_mapped}
use Rattle.lane_check.proofs.lane.cycle.write_cycle.Goals as goal

pub unwrap-round-requires : goal.unwrap-round-requires
unwrap-round-requires g c =
    let e = g.G.Graph.edge c.args.lane.now in
    let n = g.G.Graph.nodes c.args.lane.now in
    found_some _ c.find_map.result (none_mapped _ _ _ c.find_map.result _ (Open e n) c.find_map.ensures.runs (λ a r q k. search rules) (λ a k. search rules))
    (λ none. not_all_open e n c.requires.inside c.requires.cyclic.0 c.requires.cyclic.1 (λ a h. none a (omega arith) (omega (arith, h, c.node_count.ensures))))
