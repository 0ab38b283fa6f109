-- The search for the first position that passes, going round: a search among the first n of the positions that follow one another.
use Rattle.std.proofs.Common.{◌≡◌, ℕ, zero, suc, Bool, true, false, List, [], ◌∷◌, Some, None, Option, sym, refl, subst, arith}
use Rattle.std.specs.Fn.{CalledAt}
use Rattle.std.specs.Iterator.{YieldsThen, FindsItem}
use Rattle.std.specs.Iterator.Adapters.{take_steps, successors_steps}
use Rattle.std.specs.List.{FoldsTo}
use Rattle.std.specs.Option.{IfSome}
use Rattle.std.specs.declared.iter.Successors.{Successors}
use Rattle.std.specs.declared.iter.Take.{Take}
use denote.Param.Members.{Mut}
use denote.Ref.{Bor}
use Rattle.model.specs.Run.{first_from, after}

module _ {F H : Type 0} {step : Mut F (Bor ℕ × Unit {0}) (Option ℕ)} {test : Mut H (Bor ℕ × Unit {0}) Bool} (e : F) (h : H) (k : ℕ) (f : ℕ → Bool)
    (goes : (x : ℕ) (o : Option ℕ) (e' : F) → CalledAt step e x o e' → (e' ≡ e) × (o ≡ Some (after k x)))
    (tests : (x : ℕ) (b : Bool) (h' : H) → CalledAt test h x b h' → (h' ≡ h) × (b ≡ f x)) where
  found_in : (xs : List ℕ) (n p : ℕ) (s : Take (Successors ℕ F)) (r : Option ℕ) (u : Take (Successors ℕ F)) (h' : H)
      → s.iter.item ≡ Some p → s.iter.f ≡ e → s.n ≡ n → YieldsThen (take_steps (successors_steps step)) s xs r u
      → FoldsTo (λ a x b. CalledAt test a x false b) h xs h' → IfSome r (λ x. (h'' : H) × CalledAt test h' x true h'')
      → r ≡ first_from f k p n
  found_in [] zero p s None u h' i c m y d w = refl
  found_in [] (suc n) p s None u h' i c m y d w = let t = y.1 in let z = y.2 in grind arith
  found_in [] zero p s (Some x) u h' i c m y d w = let t = y.1 in let z = y.2.1 in grind arith
  found_in [] (suc n) p s (Some x) u h' i c m y d w = let t = y.1 in let z = y.2.0.0 in let v = tests x true _ (subst (λ (j : H). CalledAt test j x true w.0) (sym d) w.1) in grind arith
  found_in (x ∷ xs) zero p s r u h' i c m y d w = let z = y.1.1 in grind arith
  found_in (x ∷ xs) (suc n) p s r u h' i c m y d w =
      let j = y.1.0 in
      let z = y.1.1 in
      let v = tests x false _ d.1 in
      let b = goes x _ _ (subst (λ (a : F). CalledAt step a x j.iter.item j.iter.f) c z.0.1) in
      let rest = found_in xs n (after k p) j r u h' (grind arith) b.0 (omega arith) (y.0, y.1.2, y.2)
      (subst (λ (a : H). FoldsTo (λ a x b. CalledAt test a x false b) a xs h') v.0 d.2) w in
      grind arith

pub found : {F H : Type 0} {step : Mut F (Bor ℕ × Unit {0}) (Option ℕ)} {test : Mut H (Bor ℕ × Unit {0}) Bool} (e : F) (h : H) (k : ℕ) (f : ℕ → Bool) (n p : ℕ)
    (s : Take (Successors ℕ F)) (r : Option ℕ) (u : Take (Successors ℕ F))
    → FindsItem (take_steps (successors_steps step)) test s h r u → s.iter.item ≡ Some p → s.iter.f ≡ e → s.n ≡ n
    → ((x : ℕ) (o : Option ℕ) (e' : F) → CalledAt step e x o e' → (e' ≡ e) × (o ≡ Some (after k x)))
    → ((x : ℕ) (b : Bool) (h' : H) → CalledAt test h x b h' → (h' ≡ h) × (b ≡ f x)) → r ≡ first_from f k p n
found e h k f n p s r u y i c m goes tests = found_in e h k f goes tests y.0 n p s r u y.1 i c m y.2 y.3 y.4
