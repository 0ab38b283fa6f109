use Rattle.std.proofs.Common.{arith}
use Rattle.run.proofs.Replaying.{played}
use Rattle.run.proofs.run.Run.replay.Goals as goal

pub returns : goal.returns
returns g c =
    played _ _ _ _ _ c.args.requests.now _ _ _ c.in_ok-run.ensures (omega arith) c.answer_all.ensures
