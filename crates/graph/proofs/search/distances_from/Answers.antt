use Rattle.std.proofs.Common.{arith}
use Rattle.graph.proofs.Spreading.{blank_row}
use Rattle.graph.proofs.search.distances_from.Goals as goal

pub spread-requires-clause-blank : goal.spread-requires-clause-blank
spread-requires-clause-blank g c = blank_row 128

pub returns-else-from-node_count : goal.returns-else-from-node_count
returns-else-from-node_count g c = λ to. rw (blank_row 128 to) (λ here there k walk. absurd (omega arith))
