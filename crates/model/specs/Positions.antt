-- Where a channel's next packet may come from.
use Rattle.std.specs.Prelude.{ℕ, Bool, ◌&&◌, List, ◌∷◌, map, length, Option, ◌==◌, nat_lt}
use Rattle.std.specs.List.{slice_get}
use Rattle.model.specs.Lists.{below, keep}
use Rattle.model.specs.Net.{Net, count, start_of, finish_of}

-- The sender slot of the switch that a channel leaves, or a channel.
pub data Position : Type 0 where
  sender : Position
  over : ℕ → Position

-- A packet at position x may go on by channel c: c exists, and x is the sender slot or a channel that ends where c starts.
abbrev pub feeds : Net → Position → ℕ → Bool
feeds net sender c = nat_lt c (count net)
feeds net (over x) c = nat_lt c (count net) && finish_of net x == start_of net c

-- The positions of channel c: the sender slot, then the channels ascending, as far as they feed it.
abbrev pub positions : Net → ℕ → List Position
positions net c = keep (λ x. feeds net x c) (sender ∷ map over (below (count net)))

-- How many positions channel c has.
abbrev pub position_count : Net → ℕ → ℕ
position_count net c = length (positions net c)

-- Position p of channel c, counted from 0.
abbrev pub position_at : Net → ℕ → ℕ → Option Position
position_at net c p = slice_get (positions net c) p
