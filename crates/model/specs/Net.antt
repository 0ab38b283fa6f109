-- Switches, links and channels.
use Rattle.std.specs.Prelude.{ℕ, Bool, not, ◌&&◌, List, [], ◌∷◌, length, ◌==◌, nat_lt, slice_index_or}
use Rattle.model.specs.Lists.{any_of}

-- One direction of a link: it leaves the switch `start` and ends at the switch `finish`.
pub record Channel : Type 0 where
  pub start : ℕ
  pub finish : ℕ

-- A fabric as a plain value: the switches are 0, 1 .. switches - 1, and a channel's number is its place in the list.
pub record Net : Type 0 where
  pub switches : ℕ
  pub channels : List Channel

-- Two ends a link: channel 2i of link i goes from its first end to its second, channel 2i + 1 back.
abbrev pub channels_of : List ℕ → List Channel
channels_of [] = []
channels_of (a ∷ []) = []
channels_of (a ∷ (b ∷ ends)) = record { start = a; finish = b } ∷ (record { start = b; finish = a } ∷ channels_of ends)

-- The fabric of n switches with these link ends.
abbrev pub net_of : ℕ → List ℕ → Net
net_of n ends = record { switches = n; channels = channels_of ends }

-- Read where a channel is missing; every statement bounds the number first.
abbrev pub nowhere : Channel
nowhere = record { start = 0; finish = 0 }

-- How many channels there are.
abbrev pub count : Net → ℕ
count net = length net.channels

-- The switch that channel c leaves.
abbrev pub start_of : Net → ℕ → ℕ
start_of net c = (slice_index_or net.channels c nowhere).start

-- The switch at which channel c ends.
abbrev pub finish_of : Net → ℕ → ℕ
finish_of net c = (slice_index_or net.channels c nowhere).finish

-- Channel c exists and leaves switch u.
abbrev pub leaves : Net → ℕ → ℕ → Bool
leaves net c u = nat_lt c (count net) && start_of net c == u

-- Some channel goes from switch u to switch v.
abbrev pub joins : Net → ℕ → ℕ → Bool
joins net u v = any_of (λ c. (c.start == u) && c.finish == v) net.channels

-- A pair: two different switches of n.
abbrev pub is_pair : ℕ → ℕ → ℕ → Bool
is_pair n s d = nat_lt s n && nat_lt d n && not (s == d)
