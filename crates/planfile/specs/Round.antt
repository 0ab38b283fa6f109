-- Decoding what was written, and writing what was decoded.
use Rattle.std.specs.Prelude.{◌≡◌, ℕ, ◌<◌, ◌⊎◌, List, ◌++◌, length, drop, Some, None, Ok, Err, Result, MatchOption, ◌≢◌}
use Rattle.fabric.specs.Of.{net}
use Rattle.fabric.specs.declared.network.Fabric.{Fabric}
use Rattle.model.specs.Net.{Net}
use Rattle.model.specs.Rules.{Rule}
use Rattle.routing.specs.Tables.{rule_of}
use Rattle.planfile.specs.Faults.{file_refusal}
use Rattle.planfile.specs.File.{file_bytes}
use Rattle.planfile.specs.Refused.{PlanFile, Refused, lane_count_in}
use Rattle.planfile.specs.Writes.{Named, write_refusal}
use Rattle.planfile.specs.declared.fault.FileFault.{FileFault}
use Rattle.planfile.specs.declared.plan.Plan.{Plan}

-- Two plans are the same: the fabric, the lane count, and the answers for two different switches.
pub record Same (net : Net) (m : ℕ) (rule : Rule) (net' : Net) (m' : ℕ) (rule' : Rule) : Type 0 where
  pub fabric : net ≡ net'
  pub lanes : m ≡ m'
  pub hops : (u d : ℕ) → u < net.switches → d < net.switches → (u ≢ d) → rule.next u d ≡ rule'.next u d
  pub rows : (s d : ℕ) → s < net.switches → d < net.switches → (s ≢ d) → rule.lane s d ≡ rule'.lane s d

-- What decoding answers to the file of a plan: the same plan, or want of memory, but no refusal.
abbrev pub Returns : Net → ℕ → Rule → Result Plan FileFault → Type 0
Returns net' lanes rule (Ok p) = Same net' lanes rule (net p.fabric) p.lanes (rule_of p.table)
Returns net' lanes rule (Err f) = file_refusal f ≡ None

-- Of every fabric, lane count and rule whose channels are below 255.
abbrev pub Back : List ℕ → Result Plan FileFault → Type 0
Back bs r = (f : Fabric) (lanes : ℕ) (rule : Rule) → Named (net f).switches rule → bs ≡ file_bytes (net f) lanes rule → Returns (net f) lanes rule r

-- Nothing refuses the writing: the file is the front of the list, and what follows it stays.
abbrev pub Written : Net → ℕ → Rule → List ℕ → List ℕ → Type 0
Written net' lanes rule old new =
    (write_refusal lanes (length (file_bytes net' lanes rule)) (length old) ≡ None)
    × (new ≡ file_bytes net' lanes rule ++ drop (length (file_bytes net' lanes rule)) old)

-- Writing a file and decoding it: the same plan. A fault is the refusal of the writing, which changes nothing, or want of memory after
-- the file was written.
abbrev pub Keeps : Net → ℕ → Rule → List ℕ → List ℕ → Result Plan FileFault → Type 0
Keeps net' lanes rule old new (Ok p) = Written net' lanes rule old new × Same net' lanes rule (net p.fabric) p.lanes (rule_of p.table)
Keeps net' lanes rule old new (Err f) =
    MatchOption (file_refusal f) (Written net' lanes rule old new)
    (λ r. (write_refusal lanes (length (file_bytes net' lanes rule)) (length old) ≡ Some r) × (new ≡ old))

-- Decoding a file and writing it again: the same bytes at the front of the list. A fault is the refusal of the bytes or, of a plan
-- file, that of the writing; it changes nothing.
abbrev pub Recodes : List ℕ → List ℕ → List ℕ → Result ℕ FileFault → Type 0
Recodes bs old new (Ok k) =
    PlanFile bs × (write_refusal (lane_count_in bs) (length bs) (length old) ≡ None) × (k ≡ length bs) × (new ≡ bs ++ drop k old)
Recodes bs old new (Err f) =
    MatchOption (file_refusal f) (PlanFile bs) (λ r. Refused bs r ⊎ (PlanFile bs × (write_refusal (lane_count_in bs) (length bs) (length old) ≡ Some r)))
    × (new ≡ old)
