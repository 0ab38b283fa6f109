use Rattle.std.proofs.Common.{arith}
use Rattle.graph.proofs.search.advance.Goals as goal

pub loop-node-preserved : goal.loop-node-preserved
loop-node-preserved g c = grind arith
