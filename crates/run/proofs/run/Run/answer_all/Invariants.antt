use Rattle.std.proofs.Common.{map, take}
use Rattle.run.specs.Words.{request_of}
use Rattle.run.specs.Runs.{KeepsAll}
use Rattle.run.proofs.run.Run.answer_all.Given as goal

abbrev pub invariant-loop-i : goal.invariant-loop-i
invariant-loop-i g l =
    KeepsAll g.R.RouteRule.maps l.initial.self (map request_of (take l.i l.requests)) l.self l.initial.answers l.answers
