use Rattle.std.proofs.Common.{arith}
use Rattle.run.proofs.Replaying.{all_more, all_end}
use Rattle.run.proofs.run.Run.answer_all.Goals as goal

pub loop-i-preserved : goal.loop-i-preserved
loop-i-preserved g c =
    all_more _ _ c.args.requests.now c.loop-i.i _ _ _ _ _ _ (omega arith) (omega arith) c.loop-i.invariant c.answer.ensures

pub returns : goal.returns
returns g c = all_end _ _ c.args.requests.now c.loop-i.i _ _ _ (omega arith) c.loop-i.invariant
