use Rattle.std.proofs.Common.{◌≡◌, map, take}
use Rattle.planfile.proofs.links.write_ends.Given as goal

abbrev pub invariant-loop-at : goal.invariant-loop-at
invariant-loop-at l = take l.at l.out ≡ map (λ c. c.start) (take l.at l.channel-items)
