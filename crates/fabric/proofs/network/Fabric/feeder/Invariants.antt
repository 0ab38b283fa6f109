use Rattle.std.proofs.Common.{◌≡◌, drop, vec_items}
use Rattle.std.specs.List.{slice_get}
use Rattle.fabric.proofs.Feeders.{feeders_from}
use Rattle.fabric.proofs.network.Fabric.feeder.Given as goal

abbrev pub invariant-loop-number : goal.invariant-loop-number
invariant-loop-number l =
    slice_get (feeders_from l.switch 0 (vec_items l.self.channels)) l.place
    ≡ slice_get (feeders_from l.switch l.number (drop l.number (vec_items l.self.channels))) l.ahead
