use Rattle.std.proofs.Common.{rules, arith}
use Rattle.fabric.specs.Of.{net}
use Rattle.planner.specs.Rows.{IsRow}
use Rattle.planner.proofs.Measuring.{from_fn_same, hops_are}
use Rattle.planner.proofs.rows.HopRows.measure.Goals as goal

pub invariant_of-result : goal.invariant_of-result
invariant_of-result c =
    let N = net c.args.fabric.now in
    let few = c.args.fabric.now.sizes in
    record {
      measured = λ u v d hu hv.
          let found =
          from_fn_same _ (IsRow N) _ (λ i y q k. search rules) _ 0 32
          c.from_fn.ensures.items.each u d (omega arith) (omega arith) in
          hops_are N c.args.fabric.now.inside u v _ hu hv (found v);
    }
