-- Which numbers count lanes.
use Rattle.std.specs.Prelude.{◌≡◌, ℕ, ◌≤◌, [], Some, Ok, Err, Result}
use Rattle.model.specs.Refusals.{refuse, call_layer}
use Rattle.fabric.specs.Faults.{call_refusal}
use Rattle.fabric.specs.declared.fault.CallFault.{CallFault}
use Rattle.fabric.specs.declared.lane_count.LaneCount.{LaneCount}

-- A lane count is 1 to 8.
abbrev pub IsLaneCount : ℕ → Type 0
IsLaneCount n = (1 ≤ n) × (n ≤ 8)

-- The count is this number. A fault is refusal 14, and comes only where the number is no lane count.
abbrev pub Counts : ℕ → Result LaneCount CallFault → Type 0
Counts n (Ok c) = (c.lanes ≡ n) × IsLaneCount n
Counts n (Err f) = (call_refusal f ≡ Some (refuse call_layer 14 [])) × (IsLaneCount n → ⊥)
