-- What making a grid answers.
use Rattle.std.specs.Prelude.{◌≡◌, ℕ, [], Some, None, Ok, Err, Result}
use Rattle.model.specs.Refusals.{refuse, fabric_layer}
use Rattle.model.specs.Rules.{grid_net}
use Rattle.fabric.specs.Grids.{IsGrid}
use Rattle.fabric.specs.Of.{net}
use Rattle.fabric.specs.declared.network.Fabric.{Fabric}
use Rattle.routing.specs.Faults.{rule_refusal}
use Rattle.routing.specs.declared.fault.RuleFault.{RuleFault}
use Rattle.routing.specs.declared.grid.Grid.{Grid}

-- A grid has the sides asked for. A fault is refusal 20, and comes only where there is no such grid.
abbrev pub MakesGrid : ℕ → ℕ → Result Grid RuleFault → Type 0
MakesGrid w h (Ok g) = IsGrid w h × ((g.width ≡ w) × (g.height ≡ h))
MakesGrid w h (Err f) = (rule_refusal f ≡ Some (refuse fabric_layer 20 [])) × (IsGrid w h → ⊥)

-- The fabric of a grid is exactly the grid's, and a fault is want of memory: nothing is refused.
abbrev pub MakesGridFabric : Grid → Result Fabric RuleFault → Type 0
MakesGridFabric g (Ok f) = net f ≡ grid_net g.width g.height
MakesGridFabric g (Err f) = rule_refusal f ≡ None
