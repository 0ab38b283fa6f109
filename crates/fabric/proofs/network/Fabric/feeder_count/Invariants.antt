use Rattle.std.proofs.Common.{◌≡◌, ◌==◌, take, count_by}
use Rattle.fabric.specs.declared.channel.Channel.{Channel}
use Rattle.fabric.proofs.network.Fabric.feeder_count.Given as goal

abbrev pub invariant-loop-channel : goal.invariant-loop-channel
invariant-loop-channel l = l.count ≡ count_by (λ (x : Channel). x.finish == l.switch) (take l.channel-index l.channel-items)
