-- The links of every grid make a fabric: one test over all sizes.
use Rattle.std.proofs.Common.{◌≡◌, ℕ, ◌*◌, ◌≤◌, Bool, true, cond, ◌&&◌, leb, List, Some, None, Option, sym, refl, ap, ◌∙◌, arith}
use Rattle.std.proofs.lemmas.Bool.{and_from, le-leb, cond-true}
use Rattle.std.proofs.lemmas.Grind.{common_steps}
use Rattle.std.specs.Option.{is_none}
use Rattle.model.specs.Lists.{below, all_of}
use Rattle.model.specs.Refusals.{Refusal}
use Rattle.model.specs.Cabling.{cabling_refusal}
use Rattle.model.specs.Rules.{grid_ends}
use Rattle.model.proofs.Members.{all_of_at, is_in-up_from}
use Rattle.fabric.specs.Grids.{IsGrid}
use Rattle.fabric.specs.Faults.{fabric_refusal}
use Rattle.fabric.specs.declared.fault.FabricFault.{FabricFault}

none : (o : Option Refusal) → is_none o ≡ true → o ≡ None
none None e = refl
none (Some r) e = cc

-- a grid of these sides is not refused
abbrev sound : ℕ → ℕ → Bool
sound w h = cond (leb 2 (w * h) && leb (w * h) 32) (is_none (cabling_refusal (w * h) (grid_ends w h))) true

all_sound : all_of (λ w. all_of (λ h. sound w h) (below 33)) (below 33) ≡ true
all_sound = refl

grid_cabled : (w h : ℕ) → IsGrid w h → cabling_refusal (w * h) (grid_ends w h) ≡ None
grid_cabled w h g =
    let few : (w ≤ 32) × (h ≤ 32) = grind (arith, common_steps) in
    let at-w : all_of (λ k. sound w k) (below 33) ≡ true = all_of_at (λ k. all_of (λ j. sound k j) (below 33)) (below 33) all_sound w (is_in-up_from 33 0 w (omega arith) (omega arith)) in
    let at-h : sound w h ≡ true = all_of_at (λ k. sound w k) (below 33) at-w h (is_in-up_from 33 0 h (omega arith) (omega arith)) in
    let size : (leb 2 (w * h) && leb (w * h) 32) ≡ true = and_from _ _ (le-leb 2 (w * h) g.2) (le-leb (w * h) 32 g.3) in
    none _ (sym (cond-true _ _ _ size) ∙ at-h)

-- so what would refuse them is nothing
pub grid_passes : (w h n : ℕ) (ends : List ℕ) (r : Option Refusal) → IsGrid w h → n ≡ w * h → ends ≡ grid_ends w h
    → r ≡ cabling_refusal n ends → r ≡ None
grid_passes w h n ends r g p q e =
    e ∙ ap (λ (k : ℕ). cabling_refusal k ends) p ∙ ap (λ (xs : List ℕ). cabling_refusal (w * h) xs) q ∙ grid_cabled w h g

-- and a fault of its fabric is no refusal
pub grid_fault : (e : FabricFault) (w h n : ℕ) (ends : List ℕ) → fabric_refusal e ≡ cabling_refusal n ends → n ≡ w * h → ends ≡ grid_ends w h → IsGrid w h
    → fabric_refusal e ≡ None
grid_fault e w h n ends q a b g = grid_passes w h n ends (fabric_refusal e) g a b q
