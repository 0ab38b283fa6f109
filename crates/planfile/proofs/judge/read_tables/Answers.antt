use Rattle.std.proofs.Common.{◌≡◌, ℕ, ◌*◌, List, ap, ◌∙◌, refl, arith}
use Rattle.std.proofs.lemmas.Bool.{false≢true}
use Rattle.planfile.specs.Refused.{hops, lane, HopsPlaced, LanePlaced, switches_in, hops_from, lane_from}
use Rattle.planfile.proofs.Parts.{first_byte, other_bytes}
use Rattle.planfile.proofs.Faulty.{part_same}
use Rattle.planfile.proofs.judge.read_tables.Goals as goal

pub returns-then-not-hops_placed : goal.returns-then-not-hops_placed
returns-then-not-hops_placed c =
    let e = ap (λ (z : ℕ). z * z) c.requires.counted in
    let from = c.requires.cabled.placed.from in
    hops c.requires.cabled (λ p. false≢true (c.if-not-hops_placed.ensures.1 (omega arith, omega arith)))

pub returns-then-not-lane_placed : goal.returns-then-not-lane_placed
returns-then-not-lane_placed c =
    let bs : List ℕ = c.args.bytes.now in
    let e = ap (λ (z : ℕ). z * z) c.requires.counted in
    let from = c.requires.cabled.placed.from in
    let a = c.if-not-hops_placed.ensures.0 refl in
    let h : HopsPlaced bs = record { from = omega (arith, a.0); size = omega (arith, a.1) } in
    lane c.requires.cabled h (λ p. false≢true (c.if-not-lane_placed.ensures.1 (omega (arith, a.0), omega arith)))

pub returns : goal.returns
returns c =
    let bs : List ℕ = c.args.bytes.now in
    let e = ap (λ (z : ℕ). z * z) c.requires.counted in
    let from = c.requires.cabled.placed.from in
    let a = c.if-not-hops_placed.ensures.0 refl in
    let b = c.if-not-lane_placed.ensures.0 refl in
    let h : HopsPlaced bs = record { from = omega (arith, a.0); size = omega (arith, a.1) } in
    let l : LanePlaced bs = record { from = omega (arith, a.0, b.0); size = omega (arith, b.1) } in
    let lane_at : c.args.contents.lane.offset ≡ lane_from bs = omega (arith, a.0, b.0) in (
      record { cabled = c.requires.cabled; hops = h; lane = l },
      record {
        hops = c.body.ensures ∙ part_same bs _ (hops_from bs) _ (switches_in bs * switches_in bs) (omega (arith, a.0)) (omega (arith, a.1));
        count = first_byte bs _ _ _ _ c.body-lane.ensures lane_at (omega (arith, b.1));
        lanes = other_bytes bs _ _ _ _ (switches_in bs * switches_in bs) c.body-lane.ensures (omega arith) (omega (arith, b.1));
      },
    )
