use Rattle.std.proofs.lemmas.Result.{err_from_is_err_and}
use Rattle.lane_check.specs.Answers.{accepted}
use Rattle.lane_check.specs.Checks.{setup_of}
use Rattle.patience.proofs.Telling.{refuses, answers}
use Rattle.patience.proofs.patience.patience_of.Goals as goal

pub returns-in_err-check : goal.returns-in_err-check
returns-in_err-check g c =
    let G = setup_of c.args.fabric.now c.args.lanes (g.R.RouteRule.maps c.args.rule.now) in
    let found = rw c.in_ok-pair.ensures.ok_part at c.pair.ensures in
    let p = err_from_is_err_and c.from_residual-in_err-check.result c.from_residual-in_err-check.ensures.1 in
    rw (p.1, p.2)
    (refuses (accepted G) G c.args.source c.args.destination c.args.order.now c.check.new.order c.args.cycle.now c.check.new.cycle found.0
    c.in_err-check.field-0.0 c.in_err-check.ensures.exact)

pub returns : goal.returns
returns g c =
    let G = setup_of c.args.fabric.now c.args.lanes (g.R.RouteRule.maps c.args.rule.now) in
    let found = rw c.in_ok-pair.ensures.ok_part at c.pair.ensures in
    rw (c.pair_patience.ensures c.args.lanes, found.1, found.2)
    (answers (accepted G) G c.args.source c.args.destination c.args.order.now c.check.new.order c.args.cycle.now c.check.new.cycle found.0
    c.in_ok-check.field-0 c.in_ok-check.ensures.exact)
