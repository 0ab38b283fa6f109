-- What decoding answers, from what its parts do.
use Rattle.std.proofs.Common.{◌≡◌, ℕ, ◌*◌, ◌≤◌, List, length, Some, None, Option, sym, ap, subst, arith, MatchOption}
use Rattle.std.proofs.lemmas.Bool.{le-ltb}
use Rattle.model.specs.Cabling.{cabling_refusal}
use Rattle.model.specs.Net.{Net, net_of}
use Rattle.model.specs.Refusals.{Refusal}
use Rattle.model.specs.Rules.{Rule, table_rule}
use Rattle.routing.specs.Tables.{list_refusal}
use Rattle.planfile.specs.Decodes.{Refuses}
use Rattle.planfile.specs.Faults.{file_refusal}
use Rattle.planfile.specs.File.{file_bytes}
use Rattle.planfile.specs.Judges.{Faulty}
use Rattle.planfile.specs.Refused.{PlanFile, Refused, switches_in, ends_in, hops_in, lane_count_in, lanes_in}
use Rattle.planfile.specs.declared.fault.FileFault.{FileFault}
use Rattle.planfile.proofs.Faulty.{hops_long, lanes_long}
use Rattle.planfile.proofs.Whole.{Bytes, read_back}

-- a fault of the tests
pub refuses : (bs : List ℕ) (f : FileFault) → Faulty bs f → Refuses bs f
refuses bs f h = by (file_refusal f) h
  where
    by : (o : Option Refusal) → MatchOption o ⊥ (Refused bs) → MatchOption o (PlanFile bs) (Refused bs)
    by None h = absurd h
    by (Some r) h = h

-- a fault that is no refusal
pub starved : (bs : List ℕ) (f : FileFault) → PlanFile bs → file_refusal f ≡ None → Refuses bs f
starved bs f p e = subst (λ (o : Option Refusal). MatchOption o (PlanFile bs) (Refused bs)) (sym e) p

-- nothing refuses what passed the tests
pub cabling_passes : (bs ends : List ℕ) (n : ℕ) → PlanFile bs → n ≡ switches_in bs → ends ≡ ends_in bs → cabling_refusal n ends ≡ None
cabling_passes bs ends n p e q = let sound = p.placed.cabled.sound in cc

pub lists_pass : (bs hops lanes : List ℕ) (n : ℕ) → PlanFile bs → n ≡ switches_in bs → hops ≡ hops_in bs → lanes ≡ lanes_in bs → list_refusal n hops lanes ≡ None
lists_pass bs hops lanes n p e h l =
    let q = ap (λ (z : ℕ). z * z) e in
    let a : n * n ≤ length hops = omega (arith, hops_long bs p.placed, ap length h) in
    let b : n * n ≤ length lanes = omega (arith, lanes_long bs p.placed, ap length l) in
    simp (le-ltb (length hops) (n * n) a, le-ltb (length lanes) (n * n) b)

-- the plan of a file has that file
pub decoded : (bs : List ℕ) (net : Net) (lanes : ℕ) (rule : Rule) (n : ℕ) (ends hops rows : List ℕ) → Bytes bs → PlanFile bs
    → n ≡ switches_in bs → ends ≡ ends_in bs → hops ≡ hops_in bs → rows ≡ lanes_in bs → lanes ≡ lane_count_in bs
    → net ≡ net_of n ends → rule ≡ table_rule net.switches hops rows → bs ≡ file_bytes net lanes rule
decoded bs net lanes rule n ends hops rows small p en ee eh er el q r =
    let back = read_back bs small p in cc
