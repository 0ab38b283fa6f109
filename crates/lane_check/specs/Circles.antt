-- How a cycle of a lane is found and written. e tells which channel leads to which, n how many there are, and a row how many edges
-- each is from the channel where the row begins.
use Rattle.std.specs.Prelude.{◌≡◌, ℕ, ◌<◌, Bool, true, List, ◌++◌, length, drop, Some}
use Rattle.model.specs.Walks.{Walk, Fewest}
use Rattle.model.specs.Routes.{is_cycle}
use Rattle.graph.specs.Distances.{hops_to}
use Rattle.graph.specs.declared.search.Distances.{Distances}
use Rattle.lane_check.specs.declared.lane.cycle.Round.{Round}

-- Channel b stands k edges from where the row begins, and leads to c.
pub record Before (e : ℕ → ℕ → Bool) (n : ℕ) (row : Distances) (k c b : ℕ) : Type 0 where
  pub inside : b < n
  pub far : hops_to row b ≡ Some k
  pub leads : e b c ≡ true

-- No way leads from a round to a.
pub record Open (e : ℕ → ℕ → Bool) (n a : ℕ) : Type 0 where
  pub none : (b k : ℕ) → e b a ≡ true → b < n → Walk e n a k b → ⊥

-- A shortest way from its first channel round to it.
pub record Rounds (e : ℕ → ℕ → Bool) (n : ℕ) (r : Round) : Type 0 where
  pub row : (v : ℕ) → Fewest e n r.first v (hops_to r.row v)
  pub closes : Before e n r.row r.hops r.first r.last

-- The front of the list is a cycle of k channels, and the rest is as it was.
pub record Looped (e : ℕ → ℕ → Bool) (k : ℕ) (was is : List ℕ) : Type 0 where
  pub cycle : List ℕ
  pub round : is_cycle e cycle ≡ true
  pub size : length cycle ≡ k
  pub list : is ≡ cycle ++ drop k was
