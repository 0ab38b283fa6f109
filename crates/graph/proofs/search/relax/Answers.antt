use Rattle.std.proofs.Common.{arith}
use Rattle.std.proofs.lemmas.Grind.{common_steps}
use Rattle.graph.proofs.Relaxing.{unreached-set}
use Rattle.graph.proofs.search.relax.Goals as goal

pub loop-to-preserved : goal.loop-to-preserved
loop-to-preserved g c = grind (arith, common_steps, unreached-set, (g.met.G.Graph.few c.args.graph.now).1)
