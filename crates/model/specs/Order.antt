-- The order of a lane's channels.
use Rattle.std.specs.Prelude.{ℕ, zero, suc, Bool, not, ◌&&◌, List, [], ◌∷◌, Some, None, ◌==◌}
use Rattle.model.specs.Lists.{below, all_of, first, is_in, without, is_empty}
use Rattle.model.specs.Net.{Net, count}
use Rattle.model.specs.Rules.{Rule}
use Rattle.model.specs.Routes.{Edge, lane_deps}

-- No predecessor of c is among those left.
abbrev pub free : List Edge → List ℕ → ℕ → Bool
free es rest c = all_of (λ e. not (e.head == c && is_in e.tail rest)) es

-- Of the channels left, repeatedly the lowest whose predecessors are all written, at most k of them.
abbrev pub order_from : List Edge → ℕ → List ℕ → List ℕ
order_from es zero rest = []
order_from es (suc k) rest =
    elim (first (free es rest) rest) [ None ↦ [] | Some c ↦ c ∷ order_from es k (without c rest) ]

-- What is left in the end.
abbrev pub rest_from : List Edge → ℕ → List ℕ → List ℕ
rest_from es zero rest = rest
rest_from es (suc k) rest = elim (first (free es rest) rest) [ None ↦ rest | Some c ↦ rest_from es k (without c rest) ]

-- The order of n channels with these dependencies.
abbrev pub order_of : ℕ → List Edge → List ℕ
order_of n es = order_from es n (below n)

-- It takes every channel.
abbrev pub completes : ℕ → List Edge → Bool
completes n es = is_empty (rest_from es n (below n))

abbrev pub lane_order : Net → Rule → ℕ → List ℕ
lane_order net rule ℓ = order_of (count net) (lane_deps net rule ℓ)
