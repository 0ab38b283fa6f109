-- The refusal of each fault of a plan file; none for want of memory.
use Rattle.std.specs.Prelude.{ℕ, [], ◌∷◌, Some, None, Option}
use Rattle.model.specs.Refusals.{Refusal, refuse, file_layer}
use Rattle.fabric.specs.Faults.{fabric_refusal}
use Rattle.routing.specs.Faults.{rule_refusal}
use Rattle.planfile.specs.declared.fault.FileFault.{FileFault}
use Rattle.planfile.specs.declared.fault.FileFault.TheVariants.{Form, Tag, Place, Diagonal, Fabric, Rule, Memory}
use Rattle.planfile.specs.declared.part.Part.{Part}
use Rattle.planfile.specs.declared.part.Part.TheVariants.{Link, Hops, Lane}

-- The number of a part, as a refusal names it.
abbrev pub part_number : Part → ℕ
part_number Link = 0
part_number Hops = 1
part_number Lane = 2

abbrev pub file_refusal : FileFault → Option Refusal
file_refusal Form = Some (refuse file_layer 15 [])
file_refusal (Tag part) = Some (refuse file_layer 16 (part_number part ∷ []))
file_refusal (Place part) = Some (refuse file_layer 17 (part_number part ∷ []))
file_refusal (Diagonal part byte) = Some (refuse file_layer 18 (part_number part ∷ byte ∷ []))
file_refusal (Fabric f) = fabric_refusal f
file_refusal (Rule f) = rule_refusal f
file_refusal Memory = None
