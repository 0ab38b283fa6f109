-- Holds and patience as far as 32 bits tell them.
use Rattle.std.specs.Prelude.{◌≡◌, ℕ, zero, suc, ◌<◌, min, max, Bool, cond, List, slice_index_or}
use Rattle.model.specs.Waits.{turn_cost}
use Rattle.patience.specs.declared.holds.Slot.{Slot}

-- A number as far as 32 bits tell it.
abbrev pub capped : ℕ → ℕ
capped x = min x 4294967295

-- The slot of channel c in a row of slots.
abbrev pub slot_at : List Slot → ℕ → Slot
slot_at xs c = slice_index_or xs c (record { positions = 0; hold = 0 })

-- A row holds f of each channel below n.
abbrev pub Row : (ℕ → Slot) → ℕ → List Slot → Type 0
Row f n xs = (c : ℕ) → c < n → slot_at xs c ≡ f c

-- The turn cost of each channel of a row, as far as it is told.
abbrev pub costs : List Slot → ℕ → ℕ
costs xs c = capped (turn_cost (slot_at xs c).positions (slot_at xs c).hold)

-- The largest of 1 and f(c), for the channels c below m that pass.
abbrev pub heaviest : (ℕ → ℕ) → (ℕ → Bool) → ℕ → ℕ
heaviest f e zero = 1
heaviest f e (suc m) = cond (e m) (max (heaviest f e m) (f m)) (heaviest f e m)

-- The hold of channel c of n with k positions each, followed over at most m dependencies, where e b c says that b leads to c.
abbrev pub hold_on : (ℕ → ℕ) → (ℕ → ℕ → Bool) → ℕ → ℕ → ℕ → ℕ
hold_on k e n zero c = 1
hold_on k e n (suc m) c = heaviest (λ x. turn_cost (k x) (hold_on k e n m x)) (e c) n

-- The slot of a channel with k positions, whose hold is followed over at most m dependencies.
abbrev pub followed : (ℕ → ℕ) → (ℕ → ℕ → Bool) → ℕ → ℕ → ℕ → Slot
followed k e n m c = record { positions = k c; hold = capped (hold_on k e n m c) }
