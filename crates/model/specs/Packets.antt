-- What is posted, called and answered.
use Rattle.std.specs.Prelude.{ℕ, Option}
use Rattle.model.specs.Refusals.{Refusal}

pub record Packet : Type 0 where
  pub source : ℕ
  pub destination : ℕ
  pub tag : ℕ

-- A packet with the place of its post among the calls, which no answer shows.
pub record Parcel : Type 0 where
  pub packet : Packet
  pub place : ℕ

abbrev pub bare : Parcel → Packet
bare x = x.packet

abbrev pub placed : ℕ → Packet → Parcel
placed i p = record { packet = p; place = i }

-- A call: a post of source, destination and tag, or a serve of a channel and a lane. Histories are made of calls.
pub data Call : Type 0 where
  post : ℕ → ℕ → ℕ → Call
  serve : ℕ → ℕ → Call

-- A request: a call, a look at the slot of a channel and a lane, or a look at the sender slot of a switch and a lane.
pub data Request : Type 0 where
  make : Call → Request
  look : ℕ → ℕ → Request
  look_sender : ℕ → ℕ → Request

-- What a call did. A slot holds an L.
pub data Event (L : Type 0) : Type 0 where
  taken : L → Event L
  delivered : L → Event L
  moved : ℕ → Event L
  waits : Event L
  idle : Event L
  refused : Refusal → Event L

-- What a request is answered: a packet taken in; one delivered, whole; one moved, from which position; the slot waits; it is idle; what
-- a slot holds; a refusal.
pub data Reply : Type 0 where
  says_taken : Reply
  says_delivered : Packet → Reply
  says_moved : ℕ → Reply
  says_waits : Reply
  says_idle : Reply
  says_holds : Option Packet → Reply
  says_refused : Refusal → Reply

-- What a call shows of what it did.
abbrev pub said : {L : Type 0} → (L → Packet) → Event L → Reply
said shows (taken x) = says_taken
said shows (delivered x) = says_delivered (shows x)
said shows (moved p) = says_moved p
said shows waits = says_waits
said shows idle = says_idle
said shows (refused r) = says_refused r
