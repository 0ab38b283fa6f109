use Rattle.std.proofs.Common.{◌≡◌, ◌++◌, vec_items}
use Rattle.routing.specs.Links.{links}
use Rattle.routing.proofs.grid.makes.push_links.Given as goal

abbrev pub invariant-loop-switch : goal.invariant-loop-switch
invariant-loop-switch l = vec_items l.initial.ends ++ links l.first l.end l.step ≡ vec_items l.ends ++ links l.switch l.end l.step
