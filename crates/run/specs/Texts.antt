-- What a packet, an outcome and an answer print.
use Rattle.std.specs.Prelude.{ℕ, List, ◌++◌, Some, None, Option, codes}
use Rattle.std.specs.Fmt.{decimal}
use Rattle.model.specs.Refusals.{number_of}
use Rattle.routing.specs.Faults.{rule_refusal}
use Rattle.run.specs.declared.packet.Packet.{Packet}
use Rattle.run.specs.declared.words.Answer.{Answer}
use Rattle.run.specs.declared.words.Answer.TheVariants.{Taken, Served, Holds, Refused}
use Rattle.run.specs.declared.words.Outcome.{Outcome}
use Rattle.run.specs.declared.words.Outcome.TheVariants.{Delivered, Moved, Waits, Idle}

-- Its source, its destination and its tag.
abbrev pub packet_text : Packet → List ℕ
packet_text p = decimal p.source ++ (codes " " ++ (decimal p.destination ++ (codes " " ++ decimal p.tag)))

abbrev pub outcome_text : Outcome → List ℕ
outcome_text (Delivered p) = codes "delivered " ++ packet_text p
outcome_text (Moved p) = codes "moved " ++ decimal p
outcome_text Waits = codes "waits"
outcome_text Idle = codes "idle"

-- A refusal by its number; want of memory has none.
abbrev pub refusal_text : Option ℕ → List ℕ
refusal_text (Some n) = codes "refused " ++ decimal n
refusal_text None = codes "there is no memory"

abbrev pub answer_text : Answer → List ℕ
answer_text Taken = codes "taken"
answer_text (Served o) = outcome_text o
answer_text (Holds (Some p)) = codes "holds " ++ decimal p.tag
answer_text (Holds None) = codes "empty"
answer_text (Refused f) = refusal_text (number_of (rule_refusal f))
