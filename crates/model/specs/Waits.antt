-- Hold and patience: how many rounds a packet may have to wait. A channel c has k c positions; es are the lane's dependencies.
use Rattle.std.specs.Prelude.{ℕ, zero, suc, ◌+◌, ◌*◌, max, true, false, List, [], ◌∷◌, ◌==◌}
use Rattle.model.specs.Net.{count}
use Rattle.model.specs.Positions.{position_count}
use Rattle.model.specs.Rules.{Setup}
use Rattle.model.specs.Routes.{Edge, lane_deps, route}

-- What it costs to get one's turn at a slot of k positions and hold h.
abbrev pub turn_cost : ℕ → ℕ → ℕ
turn_cost k h = k * (h + 1)

-- What it costs to get onto a channel and through its slot.
abbrev pub pass_cost : ℕ → ℕ → ℕ
pass_cost k h = turn_cost k h

-- The largest of 1 and all f(c'), for the dependencies from c to c'.
abbrev pub largest : (ℕ → ℕ) → ℕ → List Edge → ℕ
largest f c [] = 1
largest f c (e ∷ es) =
    let rest = largest f c es in
    elim (e.tail == c) [ true ↦ max (f e.head) rest | false ↦ rest ]

-- The hold of channel c, followed over at most m dependencies.
abbrev pub hold_from : (ℕ → ℕ) → List Edge → ℕ → ℕ → ℕ
hold_from k es zero c = 1
hold_from k es (suc m) c = largest (λ c'. turn_cost (k c') (hold_from k es m c')) c es

-- The hold of channel c of n channels.
abbrev pub hold_of : (ℕ → ℕ) → List Edge → ℕ → ℕ → ℕ
hold_of k es n c = hold_from k es n c

abbrev pub total : (ℕ → ℕ) → List ℕ → ℕ
total f [] = 0
total f (c ∷ cs) = f c + total f cs

-- The patience of a route of n channels: 1 and what passing each channel costs.
abbrev pub patience_of : (ℕ → ℕ) → List Edge → ℕ → List ℕ → ℕ
patience_of k es n way = 1 + total (λ c. pass_cost (k c) (hold_of k es n c)) way

-- The hold of channel c in lane ℓ.
abbrev pub hold : Setup → ℕ → ℕ → ℕ
hold g ℓ c = hold_of (position_count g.net) (lane_deps g.net g.rule ℓ) (count g.net) c

-- The patience of a pair: a whole number without limit.
abbrev pub patience : Setup → ℕ → ℕ → ℕ
patience g s d =
    patience_of (position_count g.net) (lane_deps g.net g.rule (g.rule.lane s d)) (count g.net) (route g.net g.rule s d)
