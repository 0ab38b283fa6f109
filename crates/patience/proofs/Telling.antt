-- What is told of a pair's patience, and that the rest is as the check does it.
use Rattle.std.proofs.Common.{◌≡◌, ℕ, ◌+◌, ◌-◌, Bool, true, List, length, Ok, Err, Result, sym, refl, ap, ◌∙◌, subst, arith}
use Rattle.std.specs.Bool.{MatchBool}
use Rattle.model.specs.Net.{count, is_pair}
use Rattle.model.specs.Positions.{position_count}
use Rattle.model.specs.Rules.{Setup}
use Rattle.model.specs.Routes.{route, lane_deps, depends, has}
use Rattle.model.specs.Waits.{turn_cost, total, hold, patience}
use Rattle.model.proofs.Walking.{walk_exists}
use Rattle.model.proofs.Dependencies.{deps_inside}
use Rattle.routing.specs.declared.fault.RuleFault.{RuleFault}
use Rattle.lane_check.specs.Findings.{Finding, passed, cycle_in, refused}
use Rattle.model.specs.Run.{missing_number}
use Rattle.lane_check.specs.Checks.{Refuses, Settles, Checked, found}
use Rattle.patience.specs.declared.holds.Slot.{Slot}
use Rattle.patience.specs.Caps.{capped, Row, costs, hold_on, followed}
use Rattle.patience.specs.Patient.{Patient}
use Rattle.patience.proofs.Capping.{capped_turn, total_told}
use Rattle.patience.proofs.HoldRows.{hold_is, hold_by}

pub tells : (g : Setup) (s d n w : ℕ) (e : ℕ → ℕ → Bool) (slots : List Slot) → n ≡ count g.net
    → ((b c : ℕ) → e b c ≡ depends g.net g.rule (g.rule.lane s d) b c)
    → Row (followed (position_count g.net) e n n) n slots
    → w ≡ capped (1 + total (costs slots) (route g.net g.rule s d)) → w ≡ capped (patience g s d)
tells g s d n w e slots q same r t =
    let N : ℕ = count g.net in
    let k : ℕ → ℕ = position_count g.net in
    let ℓ : ℕ = g.rule.lane s d in
    let held : (c : ℕ) → hold_on k e n n c ≡ hold g ℓ c =
    λ c. ap (λ (m : ℕ). hold_on k e m m c) q ∙ hold_by k e (has (lane_deps g.net g.rule ℓ)) N N c same
    ∙ hold_is k N (lane_deps g.net g.rule ℓ) (deps_inside g.net g.rule ℓ) N c in
    t ∙ total_told (costs slots) (λ c. turn_cost (k c) (hold g ℓ c)) N 1 (route g.net g.rule s d)
    (λ c l. ap (λ (p : Slot). capped (turn_cost p.positions p.hold)) (r c (omega (arith, q))) ∙ capped_turn (k c) (hold_on k e n n c)
    ∙ ap (λ (h : ℕ). capped (turn_cost (k c) h)) (held c))
    (walk_exists g.net g.rule (g.net.switches - 1) s d)

-- What the check answers is the same for another yes.
module _ {A B : Type 0} (a : A) (b : B) (g : Setup) (o o' c c' : List ℕ) where
  no_same : (x : Finding) (f : RuleFault) → Settles a g x o o' c c' (Err f) → Settles b g x o o' c c' (Err f)
  no_same passed f s = cc
  no_same (cycle_in ℓ) f s = s
  no_same (refused r) f s = s

  yes_same : (x : Finding) (v : A) → Settles a g x o o' c c' (Ok v) → Settles b g x o o' c c' (Ok b)
  yes_same passed v s = (refl, s.1, s.2)
  yes_same (cycle_in ℓ) v s = absurd s.2
  yes_same (refused r) v s = absurd s.0

module _ {A : Type 0} (a : A) (g : Setup) (s d : ℕ) (o o' c c' : List ℕ) (pair : is_pair g.net.switches s d ≡ true) where
  of_pair : (r : Result ℕ RuleFault) → Checked (capped (patience g s d)) g o o' c c' r → Patient g s d o o' c c' r
  of_pair r q =
      subst (λ (b : Bool). MatchBool b (Checked (capped (patience g s d)) g o o' c c' r) (Refuses missing_number r × (o' ≡ o) × (c' ≡ c))) (sym pair) q

  pub refuses : (f : RuleFault) → Checked a g o o' c c' (Err f) → Patient g s d o o' c c' (Err f)
  refuses f q = of_pair (Err f) (no_same a (capped (patience g s d)) g o o' c c' (found g (length o) (length c)) f q)

  pub answers : (v : A) → Checked a g o o' c c' (Ok v) → Patient g s d o o' c c' (Ok (capped (patience g s d)))
  answers v q = of_pair (Ok (capped (patience g s d))) (yes_same a (capped (patience g s d)) g o o' c c' (found g (length o) (length c)) v q)
