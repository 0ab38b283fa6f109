-- Which grids there are, and what asking for their size answers.
use Rattle.std.specs.Prelude.{◌≡◌, ℕ, ◌*◌, ◌≤◌, [], Some, Ok, Err, Result}
use Rattle.model.specs.Refusals.{refuse, fabric_layer}
use Rattle.fabric.specs.Faults.{fabric_refusal}
use Rattle.fabric.specs.declared.fault.FabricFault.{FabricFault}

-- A grid has sides of at least 1, and 2 to 32 switches.
abbrev pub IsGrid : ℕ → ℕ → Type 0
IsGrid w h = (1 ≤ w) × (1 ≤ h) × (2 ≤ w * h) × (w * h ≤ 32)

-- A number is the switch count of a grid. A fault is refusal 20, and comes only where there is no such grid.
abbrev pub SizesGrid : ℕ → ℕ → Result ℕ FabricFault → Type 0
SizesGrid w h (Ok n) = (n ≡ w * h) × IsGrid w h
SizesGrid w h (Err e) = (fabric_refusal e ≡ Some (refuse fabric_layer 20 [])) × (IsGrid w h → ⊥)
