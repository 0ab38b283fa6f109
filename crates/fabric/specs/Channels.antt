-- The code's channels and positions as those of the model, and what holds of the channels of a fabric.
use Rattle.std.specs.Prelude.{◌≡◌, ℕ, ◌<◌, List, map, filter, length, ◌==◌, ◌≢◌, slice_index_or}
use Rattle.std.specs.List.{enumerate_from}
use Rattle.model.specs.Net.{Channel, nowhere, channels_of}
use Rattle.model.specs.Positions.{Position, sender, over}
use Rattle.fabric.specs.declared.channel.Channel.{Channel as CodeChannel}
use Rattle.fabric.specs.declared.position.Position.{Position as CodePosition}
use Rattle.fabric.specs.declared.position.Position.TheVariants.{Sender, Over}

abbrev pub plain : CodeChannel → Channel
plain c = record { start = c.start; finish = c.finish }

abbrev pub spot : CodePosition → Position
spot Sender = sender
spot (Over c) = over c

-- A channel joins two different switches below n.
abbrev pub Sits : ℕ → Channel → Type 0
Sits n c = (c.start < n) × (c.finish < n) × (c.start ≢ c.finish)

-- Every channel does.
abbrev pub Inside : ℕ → List Channel → Type 0
Inside n cs = (c : ℕ) → c < length cs → Sits n (slice_index_or cs c nowhere)

-- Where each channel starts: of links, this is the list of their ends.
abbrev pub starts : List Channel → List ℕ
starts cs = map (λ (c : Channel). c.start) cs

-- Where each channel ends.
abbrev pub finishes : List Channel → List ℕ
finishes cs = map (λ (c : Channel). c.finish) cs

-- The channels are those of links, whose ends are their starts: channels 2i and 2i + 1 join the same two switches, there and back.
abbrev pub Linked : List Channel → Type 0
Linked cs = (starts (channels_of (starts cs)) ≡ starts cs) × (finishes (channels_of (starts cs)) ≡ finishes cs)

-- The numbers of the channels that end at switch u, ascending.
unfoldable pub feeders : ℕ → List CodeChannel → List ℕ
feeders u cs = map (λ (p : ℕ × CodeChannel). p.0) (filter (λ (p : ℕ × CodeChannel). p.1.finish == u) (enumerate_from 0 cs))
