-- What a call looks up before it acts, and what it refuses there.
use Rattle.std.specs.Prelude.{◌≡◌, ℕ, ◌<◌, true, false, cond, ◌&&◌, is_some, Some, None, Ok, Err, Result, nat_lt}
use Rattle.model.specs.Net.{count, is_pair}
use Rattle.model.specs.Rules.{Setup}
use Rattle.model.specs.Packets.{Packet, Reply, says_holds, says_refused}
use Rattle.model.specs.State.{State, with_sender, front}
use Rattle.model.specs.Run.{lane_for, missing_number, laneless_pair, sender_taken}
use Rattle.fabric.specs.Faults.{call_refusal}
use Rattle.fabric.specs.Of.{net}
use Rattle.fabric.specs.declared.fault.CallFault.{CallFault}
use Rattle.routing.specs.Faults.{rule_refusal}
use Rattle.routing.specs.declared.fault.RuleFault.{RuleFault}
use Rattle.run.specs.Words.{packet_of}
use Rattle.run.specs.declared.packet.Packet.{Packet as CodePacket}
use Rattle.run.specs.declared.place.SenderPlace.{SenderPlace}
use Rattle.run.specs.declared.setup.Setup.{Setup as CodeSetup}
use Rattle.run.specs.declared.site.Site.{Site}

-- The site of a channel and a lane, or the refusal of a number that does not exist.
abbrev pub Finds : {R : Type 0} → CodeSetup R → ℕ → ℕ → Result (Site R) CallFault → Type 0
Finds s c ℓ (Ok x) = (x.setup.now ≡ s) × (x.slot.channel ≡ c) × (x.slot.lane ≡ ℓ)
Finds s c ℓ (Err e) = ((nat_lt c (count (net s.fabric.now)) && nat_lt ℓ s.lanes.lanes) ≡ false) × (call_refusal e ≡ Some missing_number)

-- The sender slot of a switch and a lane, or the refusal of a number that does not exist.
abbrev pub FindsSender : Setup → ℕ → ℕ → Result SenderPlace CallFault → Type 0
FindsSender g u ℓ (Ok x) = (u < g.net.switches) × (ℓ < g.lanes) × (x.switch ≡ u) × (x.lane ≡ ℓ)
FindsSender g u ℓ (Err e) = ((nat_lt u g.net.switches && nat_lt ℓ g.lanes) ≡ false) × (call_refusal e ≡ Some missing_number)

-- The packet of a post, or the refusal of two switches that are no pair.
abbrev pub Packs : Setup → Packet → Result CodePacket CallFault → Type 0
Packs g p (Ok x) = (is_pair g.net.switches p.source p.destination ≡ true) × (packet_of x ≡ p) × (x.source < 32) × (x.destination < 32)
Packs g p (Err e) = (is_pair g.net.switches p.source p.destination ≡ false) × (call_refusal e ≡ Some missing_number)

-- The sender slot of a packet, or the refusal of a pair whose lane is not below the lane count.
abbrev pub FindsSenderFor : Setup → Packet → Result SenderPlace RuleFault → Type 0
FindsSenderFor g p (Ok x) = (x.switch ≡ p.source) × (x.lane ≡ lane_for g p) × (x.lane < g.lanes)
FindsSenderFor g p (Err f) = (nat_lt (lane_for g p) g.lanes ≡ false) × (rule_refusal f ≡ Some (laneless_pair p.source p.destination))

-- A packet let in, or the refusal of a sender slot that is taken.
abbrev pub Admits : State Packet → SenderPlace → Packet → State Packet → Result (Unit {0}) CallFault → Type 0
Admits s x p s' (Ok _) = (s.sender x.switch x.lane ≡ None) × (s' ≡ with_sender s x.switch x.lane (Some p))
Admits s x p s' (Err e) = (s' ≡ s) × (is_some (s.sender x.switch x.lane) ≡ true) × (call_refusal e ≡ Some sender_taken)

-- What a look at a slot or a sender slot shows of a state.
abbrev pub slot_shown : Setup → State Packet → ℕ → ℕ → Reply
slot_shown g s c ℓ = cond (nat_lt c (count g.net) && nat_lt ℓ g.lanes) (says_holds (front s c ℓ)) (says_refused missing_number)

abbrev pub sender_shown : Setup → State Packet → ℕ → ℕ → Reply
sender_shown g s u ℓ = cond (nat_lt u g.net.switches && nat_lt ℓ g.lanes) (says_holds (s.sender u ℓ)) (says_refused missing_number)
