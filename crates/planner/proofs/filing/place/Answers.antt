use Rattle.std.proofs.Common.{rules}
use Rattle.planner.proofs.Placing.{refusing_more, placing}
use Rattle.planner.proofs.filing.place.Goals as goal

pub returns-then-file_in : goal.returns-then-file_in
returns-then-file_in c = search (rules, placing)

pub loop-lane-preserved : goal.loop-lane-preserved
loop-lane-preserved c = search (rules, refusing_more)
