use Rattle.std.proofs.Common.{◌≡◌, ℕ, List, Ok, ap, ◌∙◌, arith, rules}
use Rattle.std.proofs.lemmas.Result.{err_from_is_err_and}
use Rattle.fabric.specs.Of.{net}
use Rattle.model.specs.Net.{Net}
use Rattle.planfile.specs.Decodes.{Decodes}
use Rattle.planfile.specs.Refused.{switches_in}
use Rattle.planfile.specs.declared.fault.FileFault.TheVariants.{Fabric, Rule}
use Rattle.planfile.specs.declared.plan.Plan.{Plan}
use Rattle.planfile.proofs.Plans.{refuses, starved, cabling_passes, lists_pass, decoded}
use Rattle.planfile.proofs.Rounds.{back}
use Rattle.planfile.proofs.plan.decode.decode.Goals as goal

pub returns-in_err-links : goal.returns-in_err-links
returns-in_err-links c =
    let bs : List ℕ = c.args.bytes.now in
    let p = err_from_is_err_and c.from_residual.result c.from_residual.ensures.1 in
    let d : Decodes bs c.from_residual.result = rw (p.1, p.2) (refuses bs c.in_err-links.field-0.0 c.in_err-links.ensures) in
    record { decodes = d; back = back bs _ d; lanes = search rules }

pub returns-in_err-fabric : goal.returns-in_err-fabric
returns-in_err-fabric c =
    let bs : List ℕ = c.args.bytes.now in
    let p = err_from_is_err_and c.from_residual-in_err-fabric.result c.from_residual-in_err-fabric.ensures.1 in
    let b = c.in_ok-links.ensures in
    let d : Decodes bs c.from_residual-in_err-fabric.result = rw (p.1, p.2) (starved bs (Fabric c.in_err-fabric.field-0.0) b.0
    (c.in_err-fabric.ensures ∙ cabling_passes bs _ _ b.0 b.1.switches b.1.ends)) in
    record { decodes = d; back = back bs _ d; lanes = search rules }

pub returns-in_err-table : goal.returns-in_err-table
returns-in_err-table c =
    let bs : List ℕ = c.args.bytes.now in
    let p = err_from_is_err_and c.from_residual-in_err-table.result c.from_residual-in_err-table.ensures.1 in
    let b = c.in_ok-links.ensures in
    let f = c.in_ok-fabric.ensures in
    let n : (net c.in_ok-fabric.fabric).switches ≡ switches_in bs = ap (λ (z : Net). z.switches) f.1 ∙ b.1.switches in
    let d : Decodes bs c.from_residual-in_err-table.result = rw (p.1, p.2) (starved bs (Rule c.in_err-table.field-0.0) b.0
    (c.in_err-table.ensures ∙ lists_pass bs _ _ _ b.0 n b.2.hops b.2.lanes)) in
    record { decodes = d; back = back bs _ d; lanes = search rules }

pub returns : goal.returns
returns c =
    let bs : List ℕ = c.args.bytes.now in
    let b = c.in_ok-links.ensures in
    let f = c.in_ok-fabric.ensures in
    let t = c.in_ok-table.ensures in
    let plan : Plan = record { fabric = c.in_ok-fabric.fabric; lanes = c.in_ok-links.field-0.tables.lane_count; table = c.in_ok-table.table } in
    let d : Decodes bs (Ok plan) =
    (b.0, decoded bs _ _ _ _ _ _ _ (λ i. omega (arith, c.type_inv.bytes i)) b.0 b.1.switches b.1.ends b.2.hops b.2.lanes b.2.count f.1 t.1) in
    record { decodes = d; back = back bs (Ok plan) d; lanes = search rules }
