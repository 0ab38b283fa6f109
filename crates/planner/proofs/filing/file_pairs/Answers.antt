use Rattle.std.proofs.Common.{◌≡◌, ℕ, ◌+◌, ◌*◌, length, take, set, replicate, [], Some, None, sym, ◌∙◌, ap, arith, length-set}
use Rattle.std.proofs.lemmas.Nat.{mul-add-lt, mul-le}
use Rattle.std.proofs.lemmas.List.{take-replicate, length-replicate}
use Rattle.std.proofs.lemmas.Result.{err_from_is_err_and}
use Rattle.arrayvec.specs.ArrayVec.{with_items}
use Rattle.arrayvec.proofs.ArrayVecLemmas.{items-with_items}
use Rattle.model.specs.Planner.{file_from}
use Rattle.model.specs.Routes.{pairs_of}
use Rattle.model.proofs.Dependencies.{pair_parts}
use Rattle.fabric.specs.Of.{net}
use Rattle.fabric.specs.Pairs.{left, plain_pair}
use Rattle.fabric.specs.declared.pairs.Pairs.{Pairs}
use Rattle.planner.specs.Drafts.{rule_of}
use Rattle.planner.specs.Faults.{topology_refusal}
use Rattle.planner.specs.declared.fault.TopologyFault.TheVariants.{NoLane}
use Rattle.planner.proofs.FiledPairs.{filing_none, filing_refused, filing_more}
use Rattle.planner.proofs.filing.file_pairs.Goals as goal

pub loop-pair-init : goal.loop-pair-init
loop-pair-init c =
    let N = net c.args.draft.now.fabric.now in
    let n = N.switches in
    let t = c.args.draft.now.cells.items in
    let s = c.switch_count-switches.ensures in
    let g = c.get.ensures in
    let it = c.into_iter-pair-iterator.ensures.into_iter_gives in
    let blank : c.truncate.new.self.items ≡ replicate (n * n) 255 =
    c.truncate.ensures.items ∙ ap (take (c.switch_count-switches.result * c.switch_count-switches.result)) c.from-table.ensures.0
    ∙ take-replicate _ 1024 255 (mul-le _ _ 32 32 s.range.1 s.range.1) ∙ ap (λ (m : ℕ). replicate (m * m) 255) s.is in
    let all : pairs_of n ≡ left c.into_iter-pair-iterator.result = sym (ap left it ∙ c.pairs-pair-items.ensures.all) in
    record {
      size = ap (λ (z : Pairs). z.switches) it ∙ c.pairs-pair-items.ensures.size;
      long = ap length blank ∙ length-replicate (n * n) 255;
      filing =
          filing_none N (rule_of c.args.draft.now) t _ c.none-board.result c.get.result _ _ _ c.none-board.ensures.size c.none-board.ensures.none
          (take-replicate c.get.result 8 c.none-board.result g.range.1)
          (ap (λ ps. file_from N (rule_of c.args.draft.now) t ps (replicate c.args.lanes.lanes []) (replicate (n * n) 255)) all
          ∙ ap (λ (m : ℕ). file_from N (rule_of c.args.draft.now) t (left c.into_iter-pair-iterator.result) (replicate m []) (replicate (n * n) 255)) (sym g.is)
          ∙ ap (file_from N (rule_of c.args.draft.now) t (left c.into_iter-pair-iterator.result) (replicate c.get.result [])) (sym blank));
    }

pub returns-in_err-lane : goal.returns-in_err-lane
returns-in_err-lane c =
    let p = err_from_is_err_and c.from_residual.result c.from_residual.ensures.1 in
    let i = c.loop-pair.invariant in
    let none : c.place.result ≡ None = grind arith in
    let fault : c.in_err-lane.field-0.0 ≡ NoLane c.in-Some.pair.source c.in-Some.pair.destination = grind arith in
    rw (p.1, p.2) (
      _,
      filing_refused _ _ _ _ _ _ (plain_pair c.in-Some.pair) _ (rw c.in-Some.ensures.steps.1 at i.filing) c.place.new.board (rw none at c.place.ensures),
      ap topology_refusal fault,
    )

pub bounds-deref_mut-pair : goal.bounds-deref_mut-pair
bounds-deref_mut-pair c =
    let n = (net c.args.draft.now.fabric.now).switches in
    let i = c.loop-pair.invariant in
    let p = pair_parts n c.in-Some.pair.source c.in-Some.pair.destination (rw i.size at c.in-Some.ensures.steps.2) in
    rw (c.switch_count-switches.ensures.is, c.deref_mut.ensures.value) (omega (arith, mul-add-lt c.in-Some.pair.source n c.in-Some.pair.destination n p.0 p.1, i.long))

pub loop-pair-preserved : goal.loop-pair-preserved
loop-pair-preserved c =
    let i = c.loop-pair.invariant in
    let t = c.loop-pair.table in
    let s = c.in-Some.pair.source in
    let d = c.in-Some.pair.destination in
    let l = c.in_ok-lane.lane in
    let shown = c.deref_mut.ensures.value in
    let cell = s * c.switch_count-switches.result + d in
    let some : c.place.result ≡ Some l = grind arith in
    let written : (with_items t (set c.deref_mut.result.now cell l)).items ≡ set t.items (s * (net c.args.draft.now.fabric.now).switches + d) l =
    items-with_items t _ (length-set c.deref_mut.result.now cell l ∙ ap length shown) ∙ ap (λ xs. set xs cell l) shown
    ∙ ap (λ (n : ℕ). set t.items (s * n + d) l) c.switch_count-switches.ensures.is in
    record {
      size = c.in-Some.ensures.steps.0 ∙ i.size;
      long = ap length written ∙ length-set _ _ _ ∙ i.long;
      filing =
          filing_more _ _ _ _ _ _ (plain_pair c.in-Some.pair) _ (rw c.in-Some.ensures.steps.1 at i.filing) c.place.new.board l _
          (rw some at c.place.ensures) written;
    }
