-- Walks of dependencies among channels that come back to where they began.
use Rattle.std.specs.Prelude.{ℕ, suc, ◌<◌, Bool, ◌&&◌, ◌==◌}
use Rattle.model.specs.Walks.{Walk}

-- No walk among n channels does.
abbrev pub Acyclic : (ℕ → ℕ → Bool) → ℕ → Type 0
Acyclic e n = (a k : ℕ) → a < n → Walk e n a (suc k) a → ⊥

-- Some walk leads from a to b.
abbrev pub Reach : (ℕ → ℕ → Bool) → ℕ → ℕ → ℕ → Type 0
Reach e n a b = (k : ℕ) × Walk e n a k b

-- The one dependency from c to c'.
abbrev pub only : ℕ → ℕ → ℕ → ℕ → Bool
only c c' b x = c == b && c' == x
