-- Pairs of a fabric's switches, and the order in which they come.
use Rattle.std.specs.Prelude.{◌≡◌, ℕ, ◌+◌, ◌*◌, true, false, List, [], ◌∷◌, Some, None, Option}
use Rattle.model.specs.Net.{is_pair}
use Rattle.model.specs.Routes.{Pair}
use Rattle.model.specs.Pairs.{pairs_left}
use Rattle.fabric.specs.declared.pair.Pair.{Pair as CodePair}
use Rattle.fabric.specs.declared.pairs.Pairs.{Pairs}

-- The pair as the model's.
abbrev pub plain_pair : CodePair → Pair
plain_pair p = record { source = p.source; destination = p.destination }

-- A pair of n switches is these two; without one they are no pair.
abbrev pub FindsPair : ℕ → ℕ → ℕ → Option CodePair → Type 0
FindsPair n s d None = is_pair n s d ≡ false
FindsPair n s d (Some p) = (is_pair n s d ≡ true) × (p.source ≡ s) × (p.destination ≡ d)

-- The pairs still to come: those from the place of the next one on.
abbrev pub left : Pairs → List Pair
left x = pairs_left x.switches (x.source * x.switches + x.destination)

-- The first of them comes, and then the others; none comes where none is left.
abbrev pub NextPair : Pairs → Option CodePair → Pairs → Type 0
NextPair was None is = (is.switches ≡ was.switches) × (left was ≡ []) × (left is ≡ [])
NextPair was (Some p) is =
    (is.switches ≡ was.switches) × (left was ≡ plain_pair p ∷ left is) × (is_pair was.switches p.source p.destination ≡ true)
