-- What a board shows: its slots, marks and sender slots as the model has them.
use Rattle.std.specs.Prelude.{ℕ, List, [], None, Option, slice_index_or}
use Rattle.std.specs.Option.{option_map}
use Rattle.model.specs.Packets.{Packet}
use Rattle.model.specs.State.{State}
use Rattle.run.specs.Words.{packet_of}
use Rattle.run.specs.declared.board.Board.{Board}
use Rattle.run.specs.declared.board.Slot.{Slot}
use Rattle.run.specs.declared.by_lane.ByLane.{ByLane}
use Rattle.run.specs.declared.packet.Packet.{Packet as CodePacket}

-- What row i of a table holds in lane j; past its rows and its lanes there is d.
abbrev pub cell : {T : Type 0} → List (ByLane T) → ℕ → ℕ → T → T
cell rows i j d = slice_index_or (slice_index_or rows i (record { items = [] })).items j d

-- It holds nothing, and its mark is 0.
abbrev pub empty_slot : Slot
empty_slot = record { held = None; mark = 0 }

-- The slot (c, ℓ); past the 128 channels and the 8 lanes there is an empty one.
abbrev pub slot_at : Board → ℕ → ℕ → Slot
slot_at b c ℓ = cell b.slots c ℓ empty_slot

-- The sender slot (u, ℓ); past the 32 switches and the 8 lanes there is an empty one.
abbrev pub sender_at : Board → ℕ → ℕ → Option CodePacket
sender_at b u ℓ = cell b.senders u ℓ None

-- All of it as a state of the model.
abbrev pub view : Board → State Packet
view b =
    record {
      slot = λ c ℓ. option_map packet_of (slot_at b c ℓ).held;
      mark = λ c ℓ. (slot_at b c ℓ).mark;
      sender = λ u ℓ. option_map packet_of (sender_at b u ℓ);
    }
