use Rattle.std.proofs.Common.{List, length, ap, arith}
use Rattle.std.proofs.lemmas.List.{length-map, take_all}
use Rattle.std.proofs.lemmas.Simd.{map-map}
use Rattle.fabric.specs.Channels.{plain}
use Rattle.fabric.specs.declared.channel.Channel.{Channel as CodeChannel}
use Rattle.model.specs.Net.{Channel}
use Rattle.planfile.proofs.links.write_ends.Goals as goal

pub returns : goal.returns
returns c =
    let cs : List CodeChannel = c.channels-channel-items.result.now in
    let same = c.channels-channel-items.ensures.is in
    let out = take_all c.loop-at.at c.loop-at.out (omega (arith, length-map cs plain, ap length same)) in
    let all = take_all c.loop-at.at cs (omega arith) in
    cc (map-map (λ (x : Channel). x.start) plain cs)
