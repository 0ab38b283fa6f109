-- The refusal of each fault of a topology: number, place and layer; none for want of memory.
use Rattle.std.specs.Prelude.{[], ◌∷◌, Some, Option}
use Rattle.model.specs.Refusals.{Refusal, refuse, topology_layer}
use Rattle.routing.specs.Faults.{rule_refusal}
use Rattle.planner.specs.declared.fault.TopologyFault.{TopologyFault}
use Rattle.planner.specs.declared.fault.TopologyFault.TheVariants.{NoPath, NoLane, Rule}

-- 9 and 10 with their pair, or the refusal of the rule fault that it holds.
abbrev pub topology_refusal : TopologyFault → Option Refusal
topology_refusal (NoPath s d) = Some (refuse topology_layer 9 (s ∷ d ∷ []))
topology_refusal (NoLane s d) = Some (refuse topology_layer 10 (s ∷ d ∷ []))
topology_refusal (Rule f) = rule_refusal f
