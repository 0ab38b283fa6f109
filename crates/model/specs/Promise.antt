-- What holds of every run on a setup that the check accepts.
use Rattle.std.specs.Prelude.{◌≡◌, ℕ, ◌<◌, Bool, true, ◌&&◌, ◌⊎◌, List, [], ◌∷◌, ◌++◌, length, Some, ◌==◌, slice_index_or}
use Rattle.model.specs.Lists.{is_in, keep}
use Rattle.model.specs.Net.{count, is_pair}
use Rattle.model.specs.Rules.{Setup}
use Rattle.model.specs.Routes.{route}
use Rattle.model.specs.Verdicts.{Accepts}
use Rattle.model.specs.Waits.{patience}
use Rattle.model.specs.Packets.{Packet, Parcel, placed, Call, post, serve, Event, taken, delivered, moved, waits, idle, refused, Reply, says_taken, says_delivered, says_moved}
use Rattle.model.specs.State.{State, held_in, listed}
use Rattle.model.specs.Run.{lane_for}
use Rattle.model.specs.History.{state_after, events_of, event_after, reply}

-- The route of a parcel, and whether it is of a pair.
abbrev pub way_of : Setup → Packet → List ℕ
way_of g p = route g.net g.rule p.source p.destination

abbrev pub of_pair : Setup → Packet → Bool
of_pair g p = is_pair g.net.switches p.source p.destination

-- A round: a stretch of calls that serves every slot at least once. Nothing else is known of it.
abbrev pub Round : Setup → List Call → Type 0
Round g calls = (c ℓ : ℕ) → c < count g.net → ℓ < g.lanes → (xs : List Call) × (ys : List Call) × (calls ≡ xs ++ (serve c ℓ ∷ ys))

-- Stretches of calls, one after the other.
abbrev pub flat : List (List Call) → List Call
flat [] = []
flat (r ∷ rs) = r ++ flat rs

abbrev pub Rounds : Setup → List (List Call) → Type 0
Rounds g rounds = (i : ℕ) → i < length rounds → Round g (slice_index_or rounds i [])

-- A serve among these calls, made after the history h, delivers this very parcel.
pub record DeliversAmong (g : Setup) (h calls : List Call) (x : Parcel) : Type 0 where
  pub before : List Call
  pub after : List Call
  pub channel : ℕ
  pub lane : ℕ
  pub split : calls ≡ before ++ (serve channel lane ∷ after)
  pub gives : event_after g (h ++ before) (serve channel lane) ≡ delivered x

-- In time: a post that was taken, followed by as many rounds as its pair's patience, one after the other, has that very parcel
-- delivered by a serve in those rounds, whatever else is called in them.
abbrev pub InTime : Setup → List Call → Type 0
InTime g h =
    (before rest : List Call) (rounds : List (List Call)) (p : Packet)
    → h ≡ (before ++ (post p.source p.destination p.tag ∷ [])) ++ (flat rounds ++ rest)
    → reply g before (post p.source p.destination p.tag) ≡ says_taken
    → length rounds ≡ patience g p.source p.destination
    → Rounds g rounds
    → DeliversAmong g (before ++ (post p.source p.destination p.tag ∷ [])) (flat rounds) (placed (length before) p)

-- A parcel is under way: a slot or a sender slot holds it.
pub data UnderWay (s : State Parcel) (x : Parcel) : Type 0 where
  on_channel : (c ℓ : ℕ) (before after : List Parcel) → held_in s c ℓ ≡ before ++ (x ∷ after) → UnderWay s x
  at_sender : (u ℓ : ℕ) → s.sender u ℓ ≡ Some x → UnderWay s x

-- A reply that says that something moved or was delivered.
abbrev pub Stirs : Reply → Type 0
Stirs a = ((p : Packet) × (a ≡ says_delivered p)) ⊎ ((i : ℕ) × (a ≡ says_moved i))

-- In motion: while any parcel is under way there is a serve that, called next, would answer moved or delivered.
abbrev pub InMotion : Setup → List Call → Type 0
InMotion g h = (x : Parcel) → UnderWay (state_after g h) x → (c : ℕ) × (ℓ : ℕ) × Stirs (reply g h (serve c ℓ))

-- What events took in, and what they delivered.
abbrev pub taken_now : Event Parcel → List Parcel
taken_now (taken x) = x ∷ []
taken_now (delivered x) = []
taken_now (moved p) = []
taken_now waits = []
taken_now idle = []
taken_now (refused r) = []

abbrev pub delivered_now : Event Parcel → List Parcel
delivered_now (taken x) = []
delivered_now (delivered x) = x ∷ []
delivered_now (moved p) = []
delivered_now waits = []
delivered_now idle = []
delivered_now (refused r) = []

abbrev pub taken_in : List (Event Parcel) → List Parcel
taken_in [] = []
taken_in (e ∷ es) = taken_now e ++ taken_in es

abbrev pub delivered_in : List (Event Parcel) → List Parcel
delivered_in [] = []
delivered_in (e ∷ es) = delivered_now e ++ delivered_in es

-- What stands on these channels, from the last back to the first.
abbrev pub along : (ℕ → List Parcel) → List ℕ → List Parcel
along f [] = []
along f (c ∷ cs) = along f cs ++ f c

-- What stands on the pair's route, from its last channel back to its first, and then in its sender slot, in the pair's lane.
abbrev pub standing : Setup → State Parcel → ℕ → ℕ → List Parcel
standing g s a b =
    along (λ c. held_in s c (g.rule.lane a b)) (route g.net g.rule a b) ++ listed (s.sender a (g.rule.lane a b))

-- The parcels of the pair (s, d).
abbrev pub mine : ℕ → ℕ → List Parcel → List Parcel
mine s d xs = keep (λ x. (x.packet.source == s) && x.packet.destination == d) xs

-- In order: of each pair, the parcels taken in are those delivered, followed by those under way.
abbrev pub InOrder : Setup → List Call → Type 0
InOrder g h = (s d : ℕ) → is_pair g.net.switches s d ≡ true
    → mine s d (taken_in (events_of g h)) ≡ mine s d (delivered_in (events_of g h)) ++ mine s d (standing g (state_after g h) s d)

-- In place: every parcel in any slot stands on a channel of its pair's route, and every parcel in any sender slot in that of its
-- source, both in its pair's lane.
pub record InPlace (g : Setup) (h : List Call) : Type 0 where
  pub slots : (c ℓ : ℕ) (x : Parcel) (before after : List Parcel) → held_in (state_after g h) c ℓ ≡ before ++ (x ∷ after)
      → (of_pair g x.packet ≡ true) × (is_in c (way_of g x.packet) ≡ true) × (lane_for g x.packet ≡ ℓ)
  pub senders : (u ℓ : ℕ) (x : Parcel) → (state_after g h).sender u ℓ ≡ Some x
      → (of_pair g x.packet ≡ true) × (x.packet.source ≡ u) × (lane_for g x.packet ≡ ℓ)

-- The four together, of a history.
pub record Law (g : Setup) (h : List Call) : Type 0 where
  pub in_time : InTime g h
  pub in_motion : InMotion g h
  pub in_order : InOrder g h
  pub in_place : InPlace g h

-- The whole promise: for every setup that the check accepts and every list of calls, refused ones included.
abbrev pub Promise : Type 0
Promise = (g : Setup) → Accepts g → (h : List Call) → Law g h
