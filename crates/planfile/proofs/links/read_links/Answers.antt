use Rattle.std.proofs.Common.{◌≡◌, ℕ, ◌-◌, List, None, refl, arith}
use Rattle.std.proofs.lemmas.Bool.{false≢true}
use Rattle.std.proofs.lemmas.Result.{err_from_is_err_and}
use Rattle.model.specs.Cabling.{cabling_refusal}
use Rattle.planfile.specs.Refused.{link, LinkPlaced, ends_in, length_at, switches_in}
use Rattle.planfile.proofs.Faulty.{cabling_fault}
use Rattle.planfile.proofs.Parts.{first_byte, other_bytes}
use Rattle.planfile.proofs.links.read_links.Goals as goal

pub returns-then-not-link_placed : goal.returns-then-not-link_placed
returns-then-not-link_placed c =
    link c.requires.opened
    (λ p. false≢true (c.if-not-link_placed.ensures.1 (omega arith, omega arith, omega arith, omega arith)))

pub returns-in_err-judge : goal.returns-in_err-judge
returns-in_err-judge c =
    let bs : List ℕ = c.args.bytes.now in
    let p = err_from_is_err_and c.from_residual.result c.from_residual.ensures.1 in
    let t = c.if-not-link_placed.ensures.0 refl in
    let l : LinkPlaced bs = record { from = omega (arith, t.0); least = omega (arith, t.1); most = omega (arith, t.2); odd = omega (arith, t.3) } in
    let switches = first_byte bs _ _ _ 25 c.body-body.ensures t.0 (omega (arith, t.1)) in
    let ends = other_bytes bs _ _ _ 26 (length_at bs 0 - 1) c.body-body.ensures (omega (arith, t.0)) (omega (arith, t.1)) in
    rw (p.1, p.2) (cabling_fault bs _ _ c.in_err-judge.field-0.0 switches ends c.requires.opened l c.in_err-judge.ensures)

pub returns : goal.returns
returns c =
    let bs : List ℕ = c.args.bytes.now in
    let t = c.if-not-link_placed.ensures.0 refl in
    let l : LinkPlaced bs = record { from = omega (arith, t.0); least = omega (arith, t.1); most = omega (arith, t.2); odd = omega (arith, t.3) } in
    let switches = first_byte bs _ _ _ 25 c.body-body.ensures t.0 (omega (arith, t.1)) in
    let ends = other_bytes bs _ _ _ 26 (length_at bs 0 - 1) c.body-body.ensures (omega (arith, t.0)) (omega (arith, t.1)) in
    let sound : cabling_refusal (switches_in bs) (ends_in bs) ≡ None = cc c.in_ok-judge.ensures in
    (record { opened = c.requires.opened; placed = l; sound = sound }, record { switches = switches; ends = ends })
