use Rattle.std.proofs.Common.{length, Ok, Err, refl, subst}
use Rattle.std.proofs.lemmas.Result.{err_from_is_err_and}
use Rattle.model.specs.Net.{count}
use Rattle.model.specs.Rules.{Setup}
use Rattle.fabric.specs.Of.{net}
use Rattle.fabric.specs.declared.fault.CallFault.TheVariants.{ShortList}
use Rattle.routing.specs.declared.fault.RuleFault.TheVariants.{Call}
use Rattle.lane_check.specs.Checks.{setup_of, plain_setup}
use Rattle.lane_check.proofs.Settling.{long_parts, found_count, found_short, Answers, answers, fault_answers, cycle_answers, yes_answers}
use Rattle.lane_check.proofs.verdict.check.Goals as goal

pub returns-in_err-setup : goal.returns-in_err-setup
returns-in_err-setup g c =
    let G = setup_of c.args.fabric.now c.args.lanes (g.R.RouteRule.maps c.args.rule.now) in
    let o = c.args.order.now in
    let x = c.args.cycle.now in
    let f = c.in_err-setup.ensures in
    let p = err_from_is_err_and c.from_residual.result c.from_residual.ensures.1 in
    rw (p.1, p.2) (answers G o o x x _ _ (found_count G (length o) (length x) f.1) (f.0, refl, refl))

pub returns-then-not-long_enough : goal.returns-then-not-long_enough
returns-then-not-long_enough g c =
    let G = plain_setup g.R.RouteRule.maps c.in_ok-setup.setup in
    let made = c.in_ok-setup.ensures in
    let o = c.args.order.now in
    let x = c.args.cycle.now in
    subst (λ (g : Setup). Answers g o o x x (Err (Call ShortList))) made.0
    (answers G o o x x _ (Err (Call ShortList)) (found_short G (length o) (length x) made.1 c.if-not-long_enough.ensures) (refl, refl, refl))

pub returns-in_err-judge_pairs : goal.returns-in_err-judge_pairs
returns-in_err-judge_pairs g c =
    let made = c.in_ok-setup.ensures in
    let o = c.args.order.now in
    let x = c.args.cycle.now in
    let f = c.in_err-judge_pairs.field-0.0 in
    let p = err_from_is_err_and c.from_residual-in_err-judge_pairs.result c.from_residual-in_err-judge_pairs.ensures.1 in
    rw (p.1, p.2)
    (subst (λ (g : Setup). Answers g o o x x (Err f)) made.0
    (fault_answers (plain_setup g.R.RouteRule.maps c.in_ok-setup.setup) o o x x made.1 c.if-not-long_enough.ensures f c.in_err-judge_pairs.ensures refl refl))

pub settle_lanes-requires-clause-room : goal.settle_lanes-requires-clause-room
settle_lanes-requires-clause-room g c =
    long_parts c.in_ok-setup.setup.lanes.lanes (count (net c.in_ok-setup.setup.fabric.now)) _ _ c.if-not-long_enough.ensures

pub returns-in_err-settle_lanes : goal.returns-in_err-settle_lanes
returns-in_err-settle_lanes g c =
    let made = c.in_ok-setup.ensures in
    let o = c.args.order.now in
    let x = c.args.cycle.now in
    let o' = c.settle_lanes.new.order in
    let x' = c.settle_lanes.new.cycle in
    let f = c.in_err-settle_lanes.field-0.0 in
    let p = err_from_is_err_and c.from_residual-in_err-settle_lanes.result c.from_residual-in_err-settle_lanes.ensures.1 in
    rw (p.1, p.2)
    (subst (λ (g : Setup). Answers g o o' x x' (Err f)) made.0
    (cycle_answers (plain_setup g.R.RouteRule.maps c.in_ok-setup.setup) o o' x x' made.1 c.if-not-long_enough.ensures f c.in_err-settle_lanes.ensures))

pub returns : goal.returns
returns g c =
    let made = c.in_ok-setup.ensures in
    let o = c.args.order.now in
    let x = c.args.cycle.now in
    let o' = c.settle_lanes.new.order in
    let x' = c.settle_lanes.new.cycle in
    subst (λ (g : Setup). Answers g o o' x x' (Ok c.accepted.result)) made.0
    (rw c.accepted.ensures
    (yes_answers (plain_setup g.R.RouteRule.maps c.in_ok-setup.setup) o o' x x' made.1 c.if-not-long_enough.ensures c.in_ok-settle_lanes.ensures))
