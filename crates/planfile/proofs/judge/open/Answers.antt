use Rattle.std.proofs.Common.{◌≡◌, ◌≢◌, ℕ, ◌+◌, ◌<◌, List, sym, ap, ◌∙◌, arith, below_more}
use Rattle.std.proofs.lemmas.Result.{err_from_is_err_and}
use Rattle.planfile.specs.Contents.{Formed}
use Rattle.planfile.specs.Faults.{file_refusal, part_number}
use Rattle.planfile.specs.Judges.{Faulty}
use Rattle.planfile.specs.Refused.{Tagged, form, tag, tag_at, tag_of}
use Rattle.planfile.specs.declared.fault.FileFault.{FileFault}
use Rattle.planfile.specs.declared.fault.FileFault.TheVariants.{Tag}
use Rattle.planfile.specs.declared.part.Part.{Part}
use Rattle.planfile.specs.declared.part.Part.TheVariants.{Link, Hops, Lane}
use Rattle.planfile.proofs.Faulty.{faulty}
use Rattle.planfile.proofs.judge.open.Goals as goal

-- a part with another tag, after parts that have theirs
wrong_tag : (bs : List ℕ) (part : Part) (f : FileFault) → f ≡ Tag part → Formed bs → Tagged bs (part_number part)
    → tag_at bs (part_number part) ≢ tag_of (part_number part) → Faulty bs f
wrong_tag bs part f e h t ne = faulty bs f _ (ap file_refusal e) (tag (part_number part) h (few part) t ne)
  where
    few : (part : Part) → part_number part < 3
    few Link = omega arith
    few Hops = omega arith
    few Lane = omega arith

no_tags : (bs : List ℕ) → Tagged bs 0
no_tags bs e h = absurd (omega arith)

more_tags : (bs : List ℕ) (k : ℕ) → Tagged bs k → tag_at bs k ≡ tag_of k → Tagged bs (k + 1)
more_tags bs k before here = below_more (λ (e : ℕ). tag_at bs e ≡ tag_of e) k before here

pub returns-in_err-contents : goal.returns-in_err-contents
returns-in_err-contents c =
    let p = err_from_is_err_and c.from_residual.result c.from_residual.ensures.1 in
    let h = c.in_err-contents.ensures in
    rw (p.1, p.2) (faulty c.args.bytes.now c.in_err-contents.field-0.0 _ h.0 (form h.1))

pub returns-in_err-check_tag : goal.returns-in_err-check_tag
returns-in_err-check_tag c =
    let bs : List ℕ = c.args.bytes.now in
    let p = err_from_is_err_and c.from_residual-in_err-check_tag.result c.from_residual-in_err-check_tag.ensures.1 in
    let h = c.in_ok-contents.ensures in
    let e = c.in_err-check_tag.ensures.err in
    rw (p.1, p.2) (wrong_tag bs Link _ e.0 h.0 (no_tags bs) (λ q. e.1 (h.1.link.tag ∙ q)))

pub returns-in_err-check_tag-2 : goal.returns-in_err-check_tag-2
returns-in_err-check_tag-2 c =
    let bs : List ℕ = c.args.bytes.now in
    let p = err_from_is_err_and c.from_residual-in_err-check_tag-2.result c.from_residual-in_err-check_tag-2.ensures.1 in
    let h = c.in_ok-contents.ensures in
    let t0 : tag_at bs 0 ≡ tag_of 0 = sym h.1.link.tag ∙ c.in_ok-check_tag.ensures.ok in
    let e = c.in_err-check_tag-2.ensures.err in
    rw (p.1, p.2) (wrong_tag bs Hops _ e.0 h.0 (more_tags bs 0 (no_tags bs) t0) (λ q. e.1 (h.1.hops.tag ∙ q)))

pub returns-in_err-check_tag-3 : goal.returns-in_err-check_tag-3
returns-in_err-check_tag-3 c =
    let bs : List ℕ = c.args.bytes.now in
    let p = err_from_is_err_and c.from_residual-in_err-check_tag-3.result c.from_residual-in_err-check_tag-3.ensures.1 in
    let h = c.in_ok-contents.ensures in
    let t0 : tag_at bs 0 ≡ tag_of 0 = sym h.1.link.tag ∙ c.in_ok-check_tag.ensures.ok in
    let t1 : tag_at bs 1 ≡ tag_of 1 = sym h.1.hops.tag ∙ c.in_ok-check_tag-2.ensures.ok in
    let e = c.in_err-check_tag-3.ensures.err in
    rw (p.1, p.2) (wrong_tag bs Lane _ e.0 h.0 (more_tags bs 1 (more_tags bs 0 (no_tags bs) t0) t1) (λ q. e.1 (h.1.lane.tag ∙ q)))
