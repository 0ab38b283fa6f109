-- Rows of slots, whose holds are followed over one dependency more.
use Rattle.std.proofs.Common.{◌≡◌, ℕ, zero, suc, ◌+◌, ◌<◌, Bool, true, List, sym, refl, ap, ◌∙◌, add-one}
use mathlib.Core.Path.{fun_ext}
use Rattle.model.specs.Routes.{Edge, has}
use Rattle.model.specs.Waits.{turn_cost, hold_from}
use Rattle.patience.specs.declared.holds.Slot.{Slot}
use Rattle.patience.specs.Caps.{capped, heaviest, slot_at, costs, Row, hold_on, followed}
use Rattle.patience.proofs.Capping.{capped_turn, heaviest_same, heaviest_more, largest_heaviest}

-- one dependency more
pub followed_more : (k : ℕ → ℕ) (e : ℕ → ℕ → Bool) (n m : ℕ) (xs ys : List Slot) → Row (followed k e n m) n xs
    → Row (λ c. record { positions = (slot_at xs c).positions; hold = heaviest (costs xs) (e c) n }) n ys → Row (followed k e n (m + 1)) n ys
followed_more k e n m xs ys r more c l =
    more c l
    ∙ ap (λ (p : Slot). record { positions = p.positions; hold = heaviest (costs xs) (e c) n }) (r c l)
    ∙ ap (λ (h : ℕ). record { positions = k c; hold = h })
    (heaviest_more (costs xs) (λ x. turn_cost (k x) (hold_on k e n m x)) (e c) n
    (λ x h. ap (λ (p : Slot). capped (turn_cost p.positions p.hold)) (r x h) ∙ capped_turn (k x) (hold_on k e n m x))
    ∙ ap (λ (j : ℕ). capped (hold_on k e n j c)) (sym (add-one m)))

-- the holds of a list of dependencies between channels below n
pub hold_is : (k : ℕ → ℕ) (n : ℕ) (es : List Edge) → ((b c : ℕ) → has es b c ≡ true → (b < n) × (c < n))
    → (m c : ℕ) → hold_on k (has es) n m c ≡ hold_from k es m c
hold_is k n es inside zero c = refl
hold_is k n es inside (suc m) c =
    heaviest_same (λ x. turn_cost (k x) (hold_on k (has es) n m x)) (λ x. turn_cost (k x) (hold_from k es m x)) (has es c) n
    (λ x l. ap (turn_cost (k x)) (hold_is k n es inside m x))
    ∙ sym (largest_heaviest (λ x. turn_cost (k x) (hold_from k es m x)) c n es (λ x h. (inside c x h).1))

-- the same graph by another name
pub hold_by : (k : ℕ → ℕ) (e e' : ℕ → ℕ → Bool) (n m c : ℕ) → ((b x : ℕ) → e b x ≡ e' b x) → hold_on k e n m c ≡ hold_on k e' n m c
hold_by k e e' n m c q = ap (λ (z : ℕ → ℕ → Bool). hold_on k z n m c) (fun_ext (λ b. fun_ext (q b)))
