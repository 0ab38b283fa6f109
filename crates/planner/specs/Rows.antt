-- Hop counts by rows, the channels that lead nearer, and a byte for each pair.
use Rattle.std.specs.Prelude.{◌≡◌, ℕ, ◌<◌, Bool, true, false, List, slice_index_or}
use Rattle.model.specs.Net.{Net, joins, finish_of, leaves, is_pair}
use Rattle.model.specs.Walks.{Fewest}
use Rattle.model.specs.Planner.{hops, one_more}
use Rattle.fabric.specs.declared.pair.Pair.{Pair}
use Rattle.graph.specs.Distances.{hops_to}
use Rattle.graph.specs.declared.search.Distances.{Distances}

-- The row of switch u: the fewest channels to each switch.
abbrev pub IsRow : Net → ℕ → Distances → Type 0
IsRow net u x = (v : ℕ) → Fewest (joins net) net.switches u v (hops_to x v)

-- The rows hold a fabric's hop counts.
abbrev pub Measured : Net → List Distances → Type 0
Measured net rows = (u v : ℕ) (d : Distances) → u < net.switches → v < net.switches → hops_to (slice_index_or rows u d) v ≡ hops net u v

-- Channel c leaves u for a switch one hop nearer to d.
abbrev pub is_nearer : Net → ℕ → ℕ → ℕ → Bool
is_nearer net u d c = elim (leaves net c u) [ true ↦ one_more (hops net (finish_of net c) d) (hops net u d) | false ↦ false ]

-- What may be asked for each pair of n switches.
abbrev pub TakesPairs : ℕ → (Pair → Type 0) → Type 0
TakesPairs n pre = (p : Pair) → is_pair n p.source p.destination ≡ true → pre p

-- What each answers is f.
abbrev pub Gives : ℕ → (Pair → ℕ → Type 0) → (ℕ → ℕ → ℕ) → Type 0
Gives n post f = (p : Pair) (r : ℕ) → is_pair n p.source p.destination ≡ true → post p r → r ≡ f p.source p.destination
