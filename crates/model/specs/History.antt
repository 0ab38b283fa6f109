-- The reference run: the rules fed a list of calls, refused ones too, each parcel with the place of its post among them.
use Rattle.std.specs.Prelude.{ℕ, suc, cond, ◌&&◌, List, [], ◌∷◌, ◌++◌, length, nat_lt}
use Rattle.std.specs.Option.{option_map}
use Rattle.model.specs.Net.{count}
use Rattle.model.specs.Rules.{Setup}
use Rattle.model.specs.Packets.{Parcel, bare, placed, Call, Request, make, look, look_sender, Event, Reply, says_holds, says_refused, said}
use Rattle.model.specs.State.{State, empty, front}
use Rattle.model.specs.Run.{Step, step, missing_number}

-- The i-th call.
abbrev pub step_at : Setup → ℕ → State Parcel → Call → Step Parcel
step_at g i s c = step bare (placed i) g s c

-- The state after more calls, the first of which is the i-th, and what each of them did.
abbrev pub state_from : Setup → ℕ → State Parcel → List Call → State Parcel
state_from g i s [] = s
state_from g i s (c ∷ cs) = state_from g (suc i) (step_at g i s c).state cs

abbrev pub events_from : Setup → ℕ → State Parcel → List Call → List (Event Parcel)
events_from g i s [] = []
events_from g i s (c ∷ cs) = (step_at g i s c).event ∷ events_from g (suc i) (step_at g i s c).state cs

-- The same from the opening.
abbrev pub state_after : Setup → List Call → State Parcel
state_after g h = state_from g 0 empty h

abbrev pub events_of : Setup → List Call → List (Event Parcel)
events_of g h = events_from g 0 empty h

-- What one more call does after the history h, and what it answers.
abbrev pub event_after : Setup → List Call → Call → Event Parcel
event_after g h c = (step_at g (length h) (state_after g h) c).event

abbrev pub reply : Setup → List Call → Call → Reply
reply g h c = said bare (event_after g h c)

-- The history after one more request: a look is no call.
abbrev pub grown : List Call → Request → List Call
grown h (make c) = h ++ c ∷ []
grown h (look c ℓ) = h
grown h (look_sender u ℓ) = h

-- What one more request answers.
abbrev pub reply_to : Setup → List Call → Request → Reply
reply_to g h (make c) = reply g h c
reply_to g h (look c ℓ) =
    cond (nat_lt c (count g.net) && nat_lt ℓ g.lanes) (says_holds (option_map bare (front (state_after g h) c ℓ))) (says_refused missing_number)
reply_to g h (look_sender u ℓ) =
    cond (nat_lt u g.net.switches && nat_lt ℓ g.lanes) (says_holds (option_map bare ((state_after g h).sender u ℓ))) (says_refused missing_number)

-- A list of requests: the calls among them, and the replies.
abbrev pub asked : List Call → List Request → List Call
asked h [] = h
asked h (x ∷ xs) = asked (grown h x) xs

abbrev pub replies : Setup → List Call → List Request → List Reply
replies g h [] = []
replies g h (x ∷ xs) = reply_to g h x ∷ replies g (grown h x) xs
