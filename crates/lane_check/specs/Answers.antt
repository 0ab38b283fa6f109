-- The answers of the check, and the part of a list that shows one.
use Rattle.std.specs.Prelude.{◌≡◌, ℕ, ◌+◌, ◌*◌, cond, List, ◌++◌, length, take, drop, Some, None, Ok, Err, Option, Result, ◌==◌, nat_le, nat_lt, slice_index}
use Rattle.model.specs.Lists.{below}
use Rattle.model.specs.Net.{count}
use Rattle.model.specs.Refusals.{Refusal}
use Rattle.model.specs.Rules.{Setup}
use Rattle.model.specs.Routes.{depends}
use Rattle.model.specs.Run.{missing_number}
use Rattle.model.specs.Verdicts.{fine, cyclic, lanes_verdict, verdict}
use Rattle.routing.specs.Faults.{rule_refusal}
use Rattle.routing.specs.declared.fault.RuleFault.{RuleFault}
use Rattle.routing.specs.declared.fault.RuleFault.TheVariants.{Cyclic}
use Rattle.lane_check.specs.declared.verdict.Accepted.{Accepted}
use Rattle.lane_check.specs.Checks.{short_list, orders}
use Rattle.lane_check.specs.Circles.{Looped}

-- A yes to a setup.
abbrev pub accepted : Setup → Accepted
accepted g = record { lanes = g.lanes; channels = count g.net }

-- No pair is at fault: the verdict is that on the lanes.
abbrev pub Paired : Setup → Type 0
Paired g = verdict g ≡ lanes_verdict g.net g.rule (below g.lanes)

-- A fault names the lowest lane with a cycle, and the cycle is written; without one the setup is fine. The cycle list before and after.
abbrev pub CyclicOr : Setup → List ℕ → List ℕ → Result (Unit {0}) RuleFault → Type 0
CyclicOr g c c' (Ok _) = (verdict g ≡ fine) × (c' ≡ c)
CyclicOr g c c' (Err f) = (ℓ : ℕ) × (k : ℕ) × (f ≡ Cyclic ℓ k) × (verdict g ≡ cyclic ℓ) × Looped (depends g.net g.rule ℓ) k c c'

-- The same with the order list: the orders are written where no lane has a cycle.
abbrev pub LanesSettled : Setup → List ℕ → List ℕ → List ℕ → List ℕ → Result (Unit {0}) RuleFault → Type 0
LanesSettled g o o' c c' (Ok x) = CyclicOr g c c' (Ok x) × (o' ≡ orders g ++ drop (g.lanes * count g.net) o)
LanesSettled g o o' c c' (Err f) = CyclicOr g c c' (Err f) × (o' ≡ o)

-- The length of the cycle that a refusal names; 0 where it names none.
abbrev pub cycle_length : Option Refusal → ℕ
cycle_length None = 0
cycle_length (Some x) = cond (x.number == 8) (slice_index x.place 1) 0

-- The first k of a list from a on, or the refusal of a list that ends before.
abbrev pub cut : ℕ → ℕ → List ℕ → Result (List ℕ) (Option Refusal)
cut a k xs = cond (nat_le (a + k) (length xs)) (Ok (take k (drop a xs))) (Err (Some short_list))

-- What shows a verdict: after a yes lane ℓ's part of the order list o, after a cycle its part of the cycle list c, else no bytes.
abbrev pub part : Result Accepted RuleFault → ℕ → List ℕ → List ℕ → Result (List ℕ) (Option Refusal)
part (Ok a) ℓ o c = cond (nat_lt ℓ a.lanes) (cut (ℓ * a.channels) a.channels o) (Err (Some missing_number))
part (Err f) ℓ o c = cut 0 (cycle_length (rule_refusal f)) c
