-- The refusal of each fault of a rule: number, place and layer; none for want of memory.
use Rattle.std.specs.Prelude.{[], ◌∷◌, Some, None, Option}
use Rattle.model.specs.Refusals.{Refusal, refuse, rule_layer}
use Rattle.fabric.specs.Faults.{call_refusal, fabric_refusal}
use Rattle.routing.specs.declared.fault.RuleFault.{RuleFault}
use Rattle.routing.specs.declared.fault.RuleFault.TheVariants.{Stopped, Unreached, Laneless, Cyclic, Fabric, Call, Memory}

abbrev pub rule_refusal : RuleFault → Option Refusal
rule_refusal (Stopped s d u) = Some (refuse rule_layer 5 (s ∷ d ∷ u ∷ []))
rule_refusal (Unreached s d) = Some (refuse rule_layer 6 (s ∷ d ∷ []))
rule_refusal (Laneless s d) = Some (refuse rule_layer 7 (s ∷ d ∷ []))
rule_refusal (Cyclic lane size) = Some (refuse rule_layer 8 (lane ∷ size ∷ []))
rule_refusal (Fabric f) = fabric_refusal f
rule_refusal (Call f) = call_refusal f
rule_refusal Memory = None
