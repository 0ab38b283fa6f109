-- Decoding what was written.
use Rattle.std.proofs.Common.{◌≡◌, ℕ, ◌-◌, List, ◌++◌, length, take, drop, Some, Ok, Err, Option, Result, sym, subst, arith, MatchOption}
use Rattle.std.proofs.lemmas.List.{take_at}
use Rattle.fabric.specs.Of.{net}
use Rattle.fabric.specs.declared.network.Fabric.{Fabric}
use Rattle.model.specs.Refusals.{Refusal}
use Rattle.model.specs.Rules.{Rule}
use Rattle.planfile.specs.File.{file_bytes}
use Rattle.planfile.specs.Round.{Back, Keeps, Written}
use Rattle.planfile.specs.Writes.{Named, write_refusal}
use Rattle.planfile.specs.declared.fault.FileFault.{FileFault}
use Rattle.planfile.specs.declared.plan.Plan.{Plan}

-- the front of the list is the file
pub front_is : (file old new : List ℕ) (k : ℕ) → k ≡ length file → new ≡ file ++ drop k old → take (k - 0) new ≡ file
front_is file old new k l q =
    let e : k - 0 ≡ k = omega arith in
    let front = take_at file (drop k old) k (sym l) in
    cc

-- and what follows it is the list from there on
pub at_length : (file old new : List ℕ) (k : ℕ) → k ≡ length file → new ≡ file ++ drop k old → new ≡ file ++ drop (length file) old
at_length file old new k l q = cc

pub kept : (f : Fabric) (lanes : ℕ) (rule : Rule) (bs old new : List ℕ) (r : Result Plan FileFault) → Named (net f).switches rule → bs ≡ file_bytes (net f) lanes rule
    → Written (net f) lanes rule old new → Back bs r → Keeps (net f) lanes rule old new r
kept f lanes rule bs old new (Ok p) nm e w b = (w, b f lanes rule nm e)
kept f lanes rule bs old new (Err g) nm e w b =
    subst (λ (o : Option Refusal). MatchOption o (Written (net f) lanes rule old new) (λ r. (write_refusal lanes (length (file_bytes (net f) lanes rule)) (length old) ≡ Some r) × (new ≡ old)))
    (sym (b f lanes rule nm e)) w
