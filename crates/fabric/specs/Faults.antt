-- The refusal of each fault: number, place and layer; none for want of memory.
use Rattle.std.specs.Prelude.{[], Some, None, Option}
use Rattle.model.specs.Refusals.{Refusal, refuse, call_layer, fabric_layer}
use Rattle.model.specs.Cabling.{bad_switch_count, bad_end_list, missing_end, equal_ends}
use Rattle.fabric.specs.declared.fault.CallFault.{CallFault}
use Rattle.fabric.specs.declared.fault.CallFault.TheVariants.{MissingNumber, SenderTaken, ShortList, LaneCount}
use Rattle.fabric.specs.declared.fault.FabricFault.{FabricFault}
use Rattle.fabric.specs.declared.fault.FabricFault.TheVariants.{SwitchCount, EndList, MissingEnd, EqualEnds, GridSize, Memory}

abbrev pub call_refusal : CallFault → Option Refusal
call_refusal MissingNumber = Some (refuse call_layer 11 [])
call_refusal SenderTaken = Some (refuse call_layer 12 [])
call_refusal ShortList = Some (refuse call_layer 13 [])
call_refusal LaneCount = Some (refuse call_layer 14 [])

abbrev pub fabric_refusal : FabricFault → Option Refusal
fabric_refusal SwitchCount = Some bad_switch_count
fabric_refusal EndList = Some bad_end_list
fabric_refusal (MissingEnd link) = Some (missing_end link)
fabric_refusal (EqualEnds link) = Some (equal_ends link)
fabric_refusal GridSize = Some (refuse fabric_layer 20 [])
fabric_refusal Memory = None
