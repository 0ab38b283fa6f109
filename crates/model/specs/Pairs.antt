-- The pairs of n switches that are still to come, where a pair's place is its cell in a table of n rows.
use Rattle.std.specs.Prelude.{ℕ, ◌-◌, ◌*◌, ◌/◌, ◌%◌, cond, List, [], ◌∷◌, ◌==◌}
use Rattle.model.specs.Lists.{up_from, joined}
use Rattle.model.specs.Routes.{Pair}

-- The pair of switches s and d, unless they are equal.
abbrev pub pair_of : ℕ → ℕ → List Pair
pair_of s d = cond (s == d) [] (record { source = s; destination = d } ∷ [])

-- The pairs whose place is k or later.
abbrev pub pairs_left : ℕ → ℕ → List Pair
pairs_left n k = joined (λ j. pair_of (j / n) (j % n)) (up_from (n * n - k) k)
