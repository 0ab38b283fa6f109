-- The code's packets, calls, requests and answers as those of the model. An answer is an option: want of memory says nothing, and
-- no call here answers it.
use Rattle.std.specs.Option.{option_map}
use Rattle.std.specs.Prelude.{Some, Ok, Err, Option, Result}
use Rattle.model.specs.Packets.{Packet, Call, post, serve, Request, make, look, look_sender, Reply, says_taken, says_delivered, says_moved, says_waits, says_idle, says_holds, says_refused}
use Rattle.fabric.specs.Faults.{call_refusal}
use Rattle.fabric.specs.declared.fault.CallFault.{CallFault}
use Rattle.routing.specs.Faults.{rule_refusal}
use Rattle.routing.specs.declared.fault.RuleFault.{RuleFault}
use Rattle.run.specs.declared.packet.Packet.{Packet as CodePacket}
use Rattle.run.specs.declared.words.Answer.{Answer}
use Rattle.run.specs.declared.words.Answer.TheVariants.{Taken, Served, Holds, Refused}
use Rattle.run.specs.declared.words.Call.{Call as CodeCall}
use Rattle.run.specs.declared.words.Call.TheVariants.{Post, Serve}
use Rattle.run.specs.declared.words.Outcome.{Outcome}
use Rattle.run.specs.declared.words.Outcome.TheVariants.{Delivered, Moved, Waits, Idle}
use Rattle.run.specs.declared.words.Request.{Request as CodeRequest}
use Rattle.run.specs.declared.words.Request.TheVariants.{Make, Look, LookSender}

-- A packet, field by field.
abbrev pub packet_of : CodePacket → Packet
packet_of p = record { source = p.source; destination = p.destination; tag = p.tag }

-- A post or a serve.
abbrev pub call_of : CodeCall → Call
call_of (Post s d t) = post s d t
call_of (Serve c ℓ) = serve c ℓ

-- A call or a look.
abbrev pub request_of : CodeRequest → Request
request_of (Make c) = make (call_of c)
request_of (Look c ℓ) = look c ℓ
request_of (LookSender u ℓ) = look_sender u ℓ

-- What an outcome says.
abbrev pub outcome_reply : Outcome → Reply
outcome_reply (Delivered p) = says_delivered (packet_of p)
outcome_reply (Moved p) = says_moved p
outcome_reply Waits = says_waits
outcome_reply Idle = says_idle

-- What a fault says: its refusal.
abbrev pub call_reply : CallFault → Option Reply
call_reply f = option_map says_refused (call_refusal f)

abbrev pub rule_reply : RuleFault → Option Reply
rule_reply f = option_map says_refused (rule_refusal f)

-- What a post, a serve, a look and a request are answered.
abbrev pub post_reply : Result (Unit {0}) RuleFault → Option Reply
post_reply (Ok _) = Some says_taken
post_reply (Err f) = rule_reply f

abbrev pub serve_reply : Result Outcome CallFault → Option Reply
serve_reply (Ok o) = Some (outcome_reply o)
serve_reply (Err f) = call_reply f

abbrev pub look_reply : Result (Option CodePacket) CallFault → Option Reply
look_reply (Ok o) = Some (says_holds (option_map packet_of o))
look_reply (Err f) = call_reply f

abbrev pub answer_reply : Answer → Option Reply
answer_reply Taken = Some says_taken
answer_reply (Served o) = Some (outcome_reply o)
answer_reply (Holds o) = Some (says_holds (option_map packet_of o))
answer_reply (Refused f) = rule_reply f

abbrev pub request_reply : Result Answer RuleFault → Option Reply
request_reply (Ok a) = answer_reply a
request_reply (Err f) = rule_reply f
