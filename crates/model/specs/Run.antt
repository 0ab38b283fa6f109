-- The rules of a run: what a post and a serve do.
use Rattle.std.specs.Prelude.{ℕ, zero, suc, ◌+◌, Bool, false, cond, not, ◌&&◌, [], ◌∷◌, Some, None, Option, ◌==◌, nat_lt}
use Rattle.std.specs.Option.{option_map}
use Rattle.model.specs.Net.{count, start_of, finish_of, is_pair}
use Rattle.model.specs.Positions.{Position, sender, over, position_count, position_at}
use Rattle.model.specs.Refusals.{Refusal, refuse, call_layer, rule_layer}
use Rattle.model.specs.Rules.{Setup}
use Rattle.model.specs.Packets.{Packet, Call, post, serve, Event, taken, delivered, moved, waits, idle, refused}
use Rattle.model.specs.State.{State, with_mark, with_sender, front, has_room, with_put, with_taken}

-- The refusals of a call: a number that does not exist, or a source that is its destination; a lane that is not below the lane
-- count; a sender slot that is taken.
abbrev pub missing_number : Refusal
missing_number = refuse call_layer 11 []

abbrev pub laneless_pair : ℕ → ℕ → Refusal
laneless_pair s d = refuse rule_layer 7 (s ∷ d ∷ [])

abbrev pub sender_taken : Refusal
sender_taken = refuse call_layer 12 []

-- The position after p of k, with 0 after the last.
abbrev pub after : ℕ → ℕ → ℕ
after k p = cond (nat_lt (p + 1) k) (p + 1) 0

-- The first that passes among n positions of k, from p on, going round.
abbrev pub first_from : (ℕ → Bool) → ℕ → ℕ → ℕ → Option ℕ
first_from f k p zero = None
first_from f k p (suc n) = cond (f p) (Some p) (first_from f k (after k p) n)

abbrev pub names : Option ℕ → ℕ → Bool
names None c = false
names (Some x) c = x == c

-- The channel that a packet at switch u goes on by, and the lane that it keeps to.
abbrev pub next_of : Setup → ℕ → Packet → Option ℕ
next_of g u p = g.rule.next u p.destination

abbrev pub lane_for : Setup → Packet → ℕ
lane_for g p = g.rule.lane p.source p.destination

-- A packet at switch u wants channel c: it is not destined for u, and the rule answers c.
abbrev pub wants : Setup → ℕ → ℕ → Option Packet → Bool
wants g c u None = false
wants g c u (Some p) = not (p.destination == u) && names (next_of g u p) c

-- What a call did, and the state that it left.
pub record Step (L : Type 0) : Type 0 where
  pub event : Event L
  pub state : State L

abbrev pub did : {L : Type 0} → Event L → State L → Step L
did e s = record { event = e; state = s }

module _ {L : Type 0} where
  -- What stands at a position, in lane ℓ at switch u.
  abbrev pub held_at : State L → ℕ → ℕ → Option Position → Option L
  held_at s u ℓ None = None
  held_at s u ℓ (Some sender) = s.sender u ℓ
  held_at s u ℓ (Some (over c)) = front s c ℓ

  -- The state once that has left.
  abbrev pub cleared : State L → ℕ → ℕ → Option Position → State L
  cleared s u ℓ None = s
  cleared s u ℓ (Some sender) = with_sender s u ℓ None
  cleared s u ℓ (Some (over c)) = with_taken s c ℓ

-- The rules, for an L that shows a packet and is made of one.
module _ {L : Type 0} (shows : L → Packet) (makes : Packet → L) (g : Setup) where
  -- Position p of channel c contends in lane ℓ.
  abbrev pub contends : State L → ℕ → ℕ → ℕ → Bool
  contends s c ℓ p = wants g c (start_of g.net c) (option_map shows (held_at s (start_of g.net c) ℓ (position_at g.net c p)))

  -- The first contending position from the turn mark on, going round.
  abbrev pub granted : State L → ℕ → ℕ → Option ℕ
  granted s c ℓ = first_from (contends s c ℓ) (position_count g.net c) (s.mark c ℓ) (position_count g.net c)

  -- What stood at position p is in the slot, and the mark is the position after it.
  abbrev pub advanced : State L → ℕ → ℕ → ℕ → State L
  advanced s c ℓ p =
      with_mark
      (with_put (cleared s (start_of g.net c) ℓ (position_at g.net c p)) c ℓ
      (held_at s (start_of g.net c) ℓ (position_at g.net c p)))
      c ℓ (after (position_count g.net c) p)

  abbrev pub grant : State L → ℕ → ℕ → Option ℕ → Step L
  grant s c ℓ None = did idle s
  grant s c ℓ (Some p) = did (moved p) (advanced s c ℓ p)

  -- The front of a slot, if it is destined for the switch where the channel ends.
  abbrev pub arrived : ℕ → Option L → Option L
  arrived c None = None
  arrived c (Some x) = cond ((shows x).destination == finish_of g.net c) (Some x) None

  -- An arrived front is delivered; else, where there is room, a position is granted; else the slot waits.
  abbrev pub served : State L → ℕ → ℕ → Option L → Step L
  served s c ℓ (Some x) = did (delivered x) (with_taken s c ℓ)
  served s c ℓ None = cond (has_room s c ℓ) (grant s c ℓ (granted s c ℓ)) (did waits s)

  abbrev pub serve_step : State L → ℕ → ℕ → Step L
  serve_step s c ℓ =
      cond (nat_lt c (count g.net) && nat_lt ℓ g.lanes) (served s c ℓ (arrived c (front s c ℓ))) (did (refused missing_number) s)

  abbrev pub sent : State L → Packet → Option L → Step L
  sent s p (Some x) = did (refused sender_taken) s
  sent s p None = did (taken (makes p)) (with_sender s p.source (lane_for g p) (Some (makes p)))

  abbrev pub post_step : State L → Packet → Step L
  post_step s p =
      cond (is_pair g.net.switches p.source p.destination)
      (cond (nat_lt (lane_for g p) g.lanes) (sent s p (s.sender p.source (lane_for g p)))
      (did (refused (laneless_pair p.source p.destination)) s))
      (did (refused missing_number) s)

  -- One call. A refused one changes nothing.
  abbrev pub step : State L → Call → Step L
  step s (post a b t) = post_step s (record { source = a; destination = b; tag = t })
  step s (serve c ℓ) = serve_step s c ℓ
