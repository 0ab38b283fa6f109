use Rattle.std.proofs.Common.{◌≡◌, ◌++◌, vec_items}
use Rattle.routing.specs.Links.{row_links}
use Rattle.routing.proofs.grid.Grid.ends.Given as goal

abbrev pub invariant-loop-y : goal.invariant-loop-y
invariant-loop-y l = vec_items l.ends ++ row_links l.self.width l.self.height l.y ≡ row_links l.self.width l.self.height 0
