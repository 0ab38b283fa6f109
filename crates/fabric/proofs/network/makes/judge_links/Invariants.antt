use Rattle.std.proofs.Common.{◌≡◌, drop}
use Rattle.model.specs.Cabling.{link_refusal}
use Rattle.fabric.proofs.Cables.{refusal_from}
use Rattle.fabric.proofs.network.makes.judge_links.Given as goal

abbrev pub invariant-loop-link : goal.invariant-loop-link
invariant-loop-link l = link_refusal l.switches 0 l.ends ≡ refusal_from l.switches l.link (drop l.link l.links)
