-- What making a fabric answers.
use Rattle.std.specs.Prelude.{◌≡◌, ℕ, List, Some, None, Ok, Err, Option, Result, MatchOption}
use Rattle.model.specs.Net.{net_of}
use Rattle.model.specs.Cabling.{link_refusal, cabling_refusal}
use Rattle.model.specs.Refusals.{Refusal}
use Rattle.fabric.specs.Faults.{fabric_refusal}
use Rattle.fabric.specs.Of.{net}
use Rattle.fabric.specs.declared.fault.FabricFault.{FabricFault}
use Rattle.fabric.specs.declared.network.Fabric.{Fabric}

-- A fabric is exactly what the bytes say, and nothing refuses them. A fault is their refusal; want of memory, which has none, comes
-- only where nothing refuses them.
abbrev pub Makes : ℕ → List ℕ → Result Fabric FabricFault → Type 0
Makes n ends (Ok f) = (cabling_refusal n ends ≡ None) × (net f ≡ net_of n ends)
Makes n ends (Err e) = fabric_refusal e ≡ cabling_refusal n ends

-- What tests alone answer, where this is the refusal: passed where there is none, else a fault that is it. Want of memory is no answer.
abbrev pub Finds : Option Refusal → Result (Unit {0}) FabricFault → Type 0
Finds o (Ok _) = o ≡ None
Finds o (Err e) = MatchOption (fabric_refusal e) ⊥ (λ r. o ≡ Some r)

abbrev pub Judges : ℕ → List ℕ → Result (Unit {0}) FabricFault → Type 0
Judges n ends r = Finds (cabling_refusal n ends) r

abbrev pub JudgesLinks : ℕ → List ℕ → Result (Unit {0}) FabricFault → Type 0
JudgesLinks n ends r = Finds (link_refusal n 0 ends) r
