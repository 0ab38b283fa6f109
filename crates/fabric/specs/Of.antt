-- What a fabric says.
use Rattle.std.specs.Prelude.{◌≡◌, ℕ, ◌<◌, map, vec_items, ◌≢◌}
use Rattle.model.specs.Net.{Net, count, start_of, finish_of}
use Rattle.fabric.specs.Channels.{plain}
use Rattle.fabric.specs.declared.channel.Channel.{Channel}
use Rattle.fabric.specs.declared.network.Fabric.{Fabric}
use Rattle.fabric.specs.declared.position.Position.{Position}
use Rattle.fabric.specs.declared.position.Position.TheVariants.{Sender, Over}

-- The fabric as a plain value.
abbrev pub net : Fabric → Net
net f = record { switches = f.switches; channels = map plain (vec_items f.channels) }

-- Channel c of a fabric exists, and x is it: it leaves one switch and ends at another.
pub record Joined (n : Net) (c : ℕ) (x : Channel) : Type 0 where
  pub there : c < count n
  pub leaves : x.start ≡ start_of n c
  pub ends : x.finish ≡ finish_of n c
  pub from : x.start < n.switches
  pub to : x.finish < n.switches
  pub apart : x.start ≢ x.finish

-- A position of channel c: c exists, and a channel that is a position exists and ends where c starts.
abbrev pub Stands : Net → ℕ → Position → Type 0
Stands n c Sender = c < count n
Stands n c (Over x) = (c < count n) × (x < count n) × (finish_of n x ≡ start_of n c)
