-- Walks in a graph: e u v says whether node u leads to node v, and the nodes are 0, 1 .. n - 1.
use Rattle.std.specs.Prelude.{◌≡◌, ℕ, zero, suc, ◌<◌, ◌≤◌, Bool, true, Some, None, Option}

-- A walk of k edges from a to b.
abbrev pub Walk : (ℕ → ℕ → Bool) → ℕ → ℕ → ℕ → ℕ → Type 0
Walk e n a zero b = a ≡ b
Walk e n a (suc k) b = (m : ℕ) × (m < n) × Walk e n a k m × (e m b ≡ true)

-- The fewest edges from a to b: both nodes exist, k is below the node count, there is a walk of k edges, and no walk has fewer.
-- None: no walk of any length leads from a to b, or one of the two does not exist.
abbrev pub Fewest : (ℕ → ℕ → Bool) → ℕ → ℕ → ℕ → Option ℕ → Type 0
Fewest e n a b (Some k) = (a < n) × (b < n) × (k < n) × Walk e n a k b × ((j : ℕ) → Walk e n a j b → k ≤ j)
Fewest e n a b None = a < n → b < n → (j : ℕ) → Walk e n a j b → ⊥
