-- How the order of a lane is found: which channels wait, and what blocks them. e tells which channel leads to which, w which of them
-- wait, n how many there are.
use Rattle.std.specs.Prelude.{◌≡◌, ℕ, ◌<◌, ◌≤◌, Bool, true, false, ◌&&◌, List, Some, None, Option, IfSome, MatchBool, MatchOption, slice_index_or}
use Rattle.std.specs.Option.{is_some}
use Rattle.arrayvec.specs.ArrayVec.{ArrayVec}
use Rattle.model.specs.Routes.{Edge}
use Rattle.model.specs.Order.{order_of, completes}

-- Channel c waits: a number is kept for it.
abbrev pub waits : List (Option ℕ) → ℕ → Bool
waits watch c = is_some (slice_index_or watch c None)

-- Channel b blocks c: it waits, and leads to c.
abbrev pub blocks : (ℕ → ℕ → Bool) → (ℕ → Bool) → ℕ → ℕ → Bool
blocks e w c b = w b && e b c

-- Some channel blocks c.
abbrev pub Blocked : (ℕ → ℕ → Bool) → (ℕ → Bool) → ℕ → ℕ → Type 0
Blocked e w n c = (b : ℕ) × (b < n) × (blocks e w c b ≡ true)

-- The first channel from a on that blocks c.
abbrev pub FirstBlock : (ℕ → ℕ → Bool) → (ℕ → Bool) → ℕ → ℕ → ℕ → Option ℕ → Type 0
FirstBlock e w n c a r =
    MatchOption r ((b : ℕ) → a ≤ b → b < n → blocks e w c b ≡ false)
    (λ x. (a ≤ x) × (x < n) × (blocks e w c x ≡ true) × ((b : ℕ) → a ≤ b → b < x → blocks e w c b ≡ false))

-- No channel below the number that is kept for c blocks c.
abbrev pub Watched : (ℕ → ℕ → Bool) → List (Option ℕ) → Type 0
Watched e watch = (c : ℕ) → IfSome (slice_index_or watch c None) (λ a. (b : ℕ) → b < a → blocks e (waits watch) c b ≡ false)

-- Channel c waits, and none blocks it.
pub record Free (e : ℕ → ℕ → Bool) (w : ℕ → Bool) (n c : ℕ) : Type 0 where
  pub waiting : w c ≡ true
  pub alone : (b : ℕ) → b < n → blocks e w c b ≡ false

-- Channel c does not wait, or some channel blocks it.
pub record Held (e : ℕ → ℕ → Bool) (w : ℕ → Bool) (n c : ℕ) : Type 0 where
  pub blocked : w c ≡ true → Blocked e w n c

abbrev pub FreeOr : (ℕ → ℕ → Bool) → (ℕ → Bool) → ℕ → ℕ → Bool → Type 0
FreeOr e w n c r = MatchBool r (Free e w n c) (Held e w n c)

-- No channel below k is free.
pub record HeldBelow (e : ℕ → ℕ → Bool) (w : ℕ → Bool) (n k : ℕ) : Type 0 where
  pub each : (c : ℕ) → c < k → Held e w n c

-- The lowest channel that waits and that none blocks.
abbrev pub NextFree : (ℕ → ℕ → Bool) → (ℕ → Bool) → ℕ → Option ℕ → Type 0
NextFree e w n None = HeldBelow e w n n
NextFree e w n (Some c) = (c < n) × Free e w n c × HeldBelow e w n c

-- There is a list exactly where the order takes each of n channels, and it is the order.
abbrev pub Sorted : ℕ → List Edge → Option (ArrayVec ℕ) → Type 0
Sorted n es r = (is_some r ≡ completes n es) × IfSome r (λ order. order.items ≡ order_of n es)
