-- Searches over a range of numbers.
use Rattle.std.proofs.Common.{◌≡◌, ℕ, ◌-◌, ◌<◌, ◌≤◌, Some, None, IsTrue, IfSome, IsSome, MatchOption, Option, refl, ap, ◌∙◌, subst, arith}
use Rattle.std.specs.Option.{option_map}
use Rattle.std.specs.Fn.{Called}
use Rattle.std.specs.Iterator.Runs.{Run, SomeRun, AllItemsGive, CallKeepsClosure}
use Rattle.std.specs.declared.ops.Range.{Range}
use Rattle.std.proofs.iter.Yields.{nat_range_steps}
use Rattle.std.proofs.iter.runs.Sources.{range_runs}
use denote.Param.Members.{Mut}

-- What cannot be missing is found.
pub found_some : {A P : Type 0} (Q : A → Type 0) (r : Option A) → MatchOption r P Q → (P → ⊥) → IsSome r
found_some Q None p not = absurd (not p)
found_some Q (Some x) p not = refl

-- Where `find_map` finds nothing, each number of the range gave nothing, and so it has No.
pub none_mapped : {F B : Type 0} (g : Mut F (ℕ × Unit {0}) (Option B)) (f : F) (s : Range ℕ) (r : Option B) (Found : Run nat_range_steps → B → Type 0) (No : ℕ → Type 0)
    → SomeRun nat_range_steps s (λ p. MatchOption r (IsTrue p.whole × AllItemsGive p g f None) (Found p)) → CallKeepsClosure g f
    → ((x : ℕ) → Called g f (x, tt) None f → No x) → MatchOption r ((x : ℕ) → s.start ≤ x → x < s.end → No x) (λ _. Unit {0})
none_mapped g f s (Some y) Found No run keeps so = tt
none_mapped g f s None Found No run keeps so = λ x lo hi.
    let p = run.0 in
    let R = range_runs p p.seen in
    let from : p.from ≡ s = run.1 in
    let start : p.from.start ≡ s.start = ap (λ (z : Range ℕ). z.start) from in
    let end : p.from.end ≡ s.end = ap (λ (z : Range ℕ). z.end) from in
    let k : ℕ = x - s.start in
    let here : option_map (λ y. y) (p.at k) ≡ Some x = R.3 k (omega (arith, R.1 run.2.0)) ∙ ap (λ (n : ℕ). Some n) (omega arith) in
    so x (at (p.at k) x here (run.2.1 keeps k))
  where
    at : (o : Option ℕ) (x : ℕ) → option_map (λ y. y) o ≡ Some x → IfSome o (λ y. Called g f (y, tt) None f) → Called g f (x, tt) None f
    at None x e h = cc
    at (Some y) x e h = let q : y ≡ x = cc in subst (λ (z : ℕ). Called g f (z, tt) None f) q h
