-- The rounds of the hop search, over rows of 128 options.
use Rattle.std.specs.Prelude.{◌≡◌, ℕ, ◌+◌, ◌<◌, ◌≤◌, Bool, true, false, cond, ◌&&◌, List, length, take, Some, None, Option, IsSome, is_none, nat_lt}
use Rattle.std.specs.List.{count_by}
use Rattle.graph.specs.Distances.{row_at}

-- What a row says of node v, once the edges (the test e) of one node to the nodes below m are followed in round r.
abbrev pub relaxed : (ℕ → Bool) → ℕ → ℕ → ℕ → Option ℕ → Option ℕ
relaxed e m r v None = cond (nat_lt v m && e v) (Some (r + 1)) None
relaxed e m r v (Some k) = Some k

-- How many of the first n nodes are not reached yet.
abbrev pub unreached : List (Option ℕ) → ℕ → ℕ
unreached xs n = count_by is_none (take n xs)

-- c says whether a node was reached between the rows xs and ys: then fewer of the first n nodes are unreached, else nothing changed.
abbrev pub Changed : ℕ → List (Option ℕ) → List (Option ℕ) → Bool → Type 0
Changed n xs ys true = unreached ys n < unreached xs n
Changed n xs ys false = ys ≡ xs

-- The row ys, once the edges of one node to the nodes below m are followed in round r, from the row xs; c says whether a node was reached.
pub record Relaxed (e : ℕ → Bool) (n m r : ℕ) (xs ys : List (Option ℕ)) (c : Bool) : Type 0 where
  pub each : (v : ℕ) → row_at ys v ≡ relaxed e m r v (row_at xs v)
  pub long : length ys ≡ 128
  pub change : Changed n xs ys c

-- The row ys, once the edges of those nodes below m that were reached in round r are followed, from the row xs; c says whether a node
-- was reached.
pub record Grown (e : ℕ → ℕ → Bool) (n r m : ℕ) (xs ys : List (Option ℕ)) (c : Bool) : Type 0 where
  pub stays : (v k : ℕ) → row_at xs v ≡ Some k → row_at ys v ≡ Some k
  pub fresh : (v k : ℕ) → row_at xs v ≡ None → row_at ys v ≡ Some k → (k ≡ r + 1) × ((u : ℕ) × (u < n) × (row_at xs u ≡ Some r) × (e u v ≡ true))
  pub beyond : (v : ℕ) → n ≤ v → row_at ys v ≡ row_at xs v
  pub done : (u v : ℕ) → u < m → v < n → row_at xs u ≡ Some r → e u v ≡ true → IsSome (row_at ys v)
  pub long : length ys ≡ 128
  pub change : Changed n xs ys c
