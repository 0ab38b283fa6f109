-- Lane after lane is tried.
use Rattle.std.proofs.Common.{◌≡◌, ℕ, ◌+◌, ◌<◌, Bool, true, false, List, length, get_or, set, sym, ap, ◌∙◌, subst, inl, inr, arith}
use Rattle.std.specs.List.{AllWithin}
use Rattle.std.proofs.lemmas.Bool.{cases_eq}
use Rattle.std.proofs.lemmas.List.{get_or_default, set-get_or}
use Rattle.routing.specs.declared.dependencies.Dependencies.{Dependencies}
use Rattle.planner.specs.Boards.{Refuses, Filed, PlacedIn}

module _ (n : ℕ) (e : ℕ → ℕ → Bool) (was : List Dependencies) where
  -- The lanes below l refused the dependencies, and all stand as they were.
  pub record Refusing (is : List Dependencies) (l : ℕ) : Type 0 where
    pub same : is ≡ was
    pub lower : AllWithin (Refuses n e) was 0 l

  -- Another lane refuses them.
  pub refusing_more : (is : List Dependencies) (l : ℕ) (y r : Dependencies) (b : Bool) → Refusing is l → Filed n e (get_or is l r) y b → b ≡ false → l < length is
      → Refusing (set is l y) (l + 1)
  refusing_more is l y r b R F q h =
      let f = F.spares q in
      record {
        same = ap (set is l) f.same ∙ set-get_or is l r ∙ R.same;
        lower = λ k d _ hk.
            elim (cases_eq k l) [
              | inl z ↦
                  let there : get_or is l r ≡ get_or was k d =
                  ap (λ bs. get_or bs l r) R.same ∙ ap (λ i. get_or was i r) (sym z) ∙ get_or_default was k r d (omega (arith, ap length R.same)) in
                  subst (Refuses n e) there f.refuses
              | inr z ↦ R.lower k d (omega arith) (omega arith)
            ];
      }

  -- A lane takes them.
  pub placing : (is : List Dependencies) (l : ℕ) (y r : Dependencies) (b : Bool) → Refusing is l → Filed n e (get_or is l r) y b → b ≡ true → l < length is
      → PlacedIn n e was (set is l y) l
  placing is l y r b R F q h =
      let f = F.takes q in
      record {
        below = omega (arith, ap length R.same);
        lower = R.lower;
        lane = y;
        set = ap (λ bs. set bs l y) R.same;
        adds = λ d. rw (get_or_default was l d r (omega (arith, ap length R.same)), ← R.same) f.adds;
        sound = f.sound;
      }
