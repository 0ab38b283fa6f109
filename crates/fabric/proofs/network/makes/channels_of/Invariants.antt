use Rattle.std.proofs.Common.{◌≡◌, map, take, vec_items}
use Rattle.std.specs.List.{flat_map}
use Rattle.fabric.specs.Channels.{plain}
use Rattle.fabric.proofs.Cables.{both}
use Rattle.fabric.proofs.network.makes.channels_of.Given as goal

abbrev pub invariant-loop-a : goal.invariant-loop-a
invariant-loop-a l = map plain (vec_items l.channels) ≡ flat_map both (take l.a-index l.links)
