-- What a stage of the tests finds.
use Rattle.std.proofs.Common.{◌≡◌, ℕ, ◌+◌, ◌*◌, List, length, take, drop, Some, None, Option, sym, ap, ◌∙◌, subst, arith, MatchOption}
use Rattle.std.proofs.lemmas.List.{length-take-le, length-drop}
use Rattle.fabric.specs.Faults.{fabric_refusal}
use Rattle.fabric.specs.declared.fault.FabricFault.{FabricFault}
use Rattle.model.specs.Cabling.{cabling_refusal}
use Rattle.model.specs.Refusals.{Refusal}
use Rattle.planfile.specs.Faults.{file_refusal}
use Rattle.planfile.specs.Judges.{Faulty, Searches}
use Rattle.planfile.specs.Refused.{Opened, LinkPlaced, Placed, Refused, Plain, Marred, marred, cabling, hops_diagonal, lane_diagonal, switches_in, ends_in, hops_in, lanes_in, hops_from, lane_from}
use Rattle.planfile.specs.declared.fault.FileFault.{FileFault}
use Rattle.planfile.specs.declared.fault.FileFault.TheVariants.{Fabric}

-- the fault of a refusal
pub faulty : (bs : List ℕ) (f : FileFault) (r : Refusal) → file_refusal f ≡ Some r → Refused bs r → Faulty bs f
faulty bs f r e h = subst (λ (o : Option Refusal). MatchOption o ⊥ (Refused bs)) (sym e) h

-- the fault of a cabling
pub cabling_fault : (bs : List ℕ) (n : ℕ) (ends : List ℕ) (f : FabricFault) → n ≡ switches_in bs → ends ≡ ends_in bs → Opened bs → LinkPlaced bs
    → MatchOption (fabric_refusal f) ⊥ (λ r. cabling_refusal n ends ≡ Some r) → Faulty bs (Fabric f)
cabling_fault bs n ends f en ee o p h = by (fabric_refusal f) h
  where
    by : (x : Option Refusal) → MatchOption x ⊥ (λ r. cabling_refusal n ends ≡ Some r) → MatchOption x ⊥ (Refused bs)
    by None h = h
    by (Some r) h = cabling r o p (cc)

-- a part of a list, with its bounds written otherwise
pub part_same : (bs : List ℕ) (x y k m : ℕ) → x ≡ y → k ≡ m → take k (drop x bs) ≡ take m (drop y bs)
part_same bs x y k m e f = ap (λ (z : ℕ). take k (drop z bs)) e ∙ ap (λ (z : ℕ). take z (drop y bs)) f

-- the tables are as long as they should be
pub hops_long : (bs : List ℕ) → Placed bs → length (hops_in bs) ≡ switches_in bs * switches_in bs
hops_long bs p =
    let w = p.cabled.opened.formed.whole in
    let a = p.hops.size in
    length-take-le (switches_in bs * switches_in bs) (drop (hops_from bs) bs) (omega (arith, length-drop (hops_from bs) bs))

pub lanes_long : (bs : List ℕ) → Placed bs → length (lanes_in bs) ≡ switches_in bs * switches_in bs
lanes_long bs p =
    let w = p.cabled.opened.formed.whole in
    let a = p.lane.size in
    length-take-le (switches_in bs * switches_in bs) (drop (lane_from bs + 1) bs) (omega (arith, length-drop (lane_from bs + 1) bs))

-- a diagonal, with its table written otherwise
plain_same : (n m k : ℕ) (xs ys : List ℕ) → n ≡ m → xs ≡ ys → Plain n xs k → Plain m ys k
plain_same n m k xs ys e q h = subst (λ (z : List ℕ). Plain m z k) q (subst (λ (z : ℕ). Plain z xs k) e h)

marred_same : (n m i : ℕ) (xs ys : List ℕ) → n ≡ m → xs ≡ ys → Marred n xs i → Marred m ys i
marred_same n m i xs ys e q h = subst (λ (z : List ℕ). Marred m z i) q (subst (λ (z : ℕ). Marred z xs i) e h)

pub plain_whole : (n m : ℕ) (xs ys : List ℕ) → n ≡ m → xs ≡ ys → Plain n xs n → Plain m ys m
plain_whole n m xs ys e q h = plain_same n m m xs ys e q (subst (λ (z : ℕ). Plain n xs z) e h)

pub hops_marred : (bs : List ℕ) (n byte : ℕ) (xs : List ℕ) → Placed bs → n ≡ switches_in bs → xs ≡ hops_in bs → Searches n xs (Some byte)
    → Refused bs (marred 1 byte)
hops_marred bs n byte xs p e q s =
    subst (λ (z : ℕ). Refused bs (marred 1 z)) (sym (s.1 ∙ ap (λ (z : ℕ). s.0 * z + s.0) e)) (hops_diagonal s.0 p (marred_same n _ s.0 xs _ e q s.2))

pub lanes_marred : (bs : List ℕ) (n byte : ℕ) (xs ys : List ℕ) → Placed bs → n ≡ switches_in bs → xs ≡ hops_in bs → ys ≡ lanes_in bs → Plain n xs n
    → Searches n ys (Some byte) → Refused bs (marred 2 (1 + byte))
lanes_marred bs n byte xs ys p e q r a s =
    subst (λ (z : ℕ). Refused bs (marred 2 (1 + z))) (sym (s.1 ∙ ap (λ (z : ℕ). s.0 * z + s.0) e))
    (lane_diagonal s.0 p (plain_whole n _ xs _ e q a) (marred_same n _ s.0 ys _ e r s.2))
