use Rattle.std.proofs.Common.{ℕ, List}
use Rattle.fabric.specs.Of.{net}
use Rattle.model.specs.Rules.{Rule}
use Rattle.planfile.specs.File.{file_bytes}
use Rattle.planfile.proofs.Recoding.{at_length, front_is, kept}
use Rattle.planfile.proofs.plan.round.decoded.Goals as goal

pub returns : goal.returns
returns g c =
    let rule : Rule = g.R.RouteRule.maps c.args.rule.now in
    let file : List ℕ = file_bytes (net c.args.fabric.now) c.args.lanes rule in
    let k : ℕ = c.in_ok-length.length in
    let w = c.in_ok-length.ensures in
    kept c.args.fabric.now c.args.lanes rule _ c.args.out.now _ c.decode.result w.3 (front_is file c.args.out.now _ k w.1 w.2)
    (w.0, at_length file c.args.out.now _ k w.1 w.2) c.decode.ensures.back
