-- The dependencies of a lane, and what adding to them leaves.
use Rattle.std.specs.Prelude.{◌≡◌, ℕ, Bool, not, ◌&&◌, ◌||◌, ◌==◌, nat_lt}
use Rattle.routing.specs.Edges.{edge_at}
use Rattle.routing.specs.declared.dependencies.Dependencies.{Dependencies}
use Rattle.routing.specs.declared.route.Step.{Step}

-- Channel b leads to channel c.
abbrev pub leads : Dependencies → ℕ → ℕ → Bool
leads d b c = edge_at d.cells b c

-- The dependencies e were added.
abbrev pub Adds : (ℕ → ℕ → Bool) → Dependencies → Dependencies → Type 0
Adds e was is = (b c : ℕ) → leads is b c ≡ (leads was b c || e b c)

-- The one dependency of a step, if the step joins two different channels of n.
abbrev pub taking : ℕ → Step → ℕ → ℕ → Bool
taking n x b c = (nat_lt x.tail n && nat_lt x.head n && not (x.tail == x.head)) && (x.tail == b && x.head == c)
