-- A row of distances from one node: for each node how many edges, none where it is not reached.
use Rattle.std.specs.Prelude.{◌≡◌, ℕ, Bool, List, None, Option, slice_index_or}
use Rattle.model.specs.Walks.{Fewest}
use Rattle.graph.specs.declared.search.Distances.{Distances}

-- What a row says of a node; nothing past its end.
abbrev pub row_at : List (Option ℕ) → ℕ → Option ℕ
row_at xs v = slice_index_or xs v None

abbrev pub hops_to : Distances → ℕ → Option ℕ
hops_to d v = row_at d.row v

-- Nothing is reached.
abbrev pub Blank : List (Option ℕ) → Type 0
Blank xs = (v : ℕ) → row_at xs v ≡ None

-- The row of the fewest edges from a.
abbrev pub Row : (ℕ → ℕ → Bool) → ℕ → ℕ → List (Option ℕ) → Type 0
Row e n a xs = (v : ℕ) → Fewest e n a v (row_at xs v)
