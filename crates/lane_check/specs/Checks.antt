-- What the check answers, and what it leaves in the caller's two lists.
use Rattle.std.specs.Prelude.{◌≡◌, ℕ, ◌*◌, Bool, true, false, cond, ◌&&◌, List, [], ◌∷◌, ◌++◌, length, drop, Some, Ok, Err, Result, MatchResult, nat_le}
use Rattle.model.specs.Lists.{below, joined}
use Rattle.model.specs.Net.{count}
use Rattle.model.specs.Refusals.{Refusal, refuse, call_layer, rule_layer}
use Rattle.model.specs.Rules.{Rule, Setup}
use Rattle.model.specs.Routes.{depends, is_cycle}
use Rattle.model.specs.Order.{lane_order}
use Rattle.model.specs.Verdicts.{Accepts, verdict}
use Rattle.fabric.specs.Faults.{call_refusal}
use Rattle.fabric.specs.Of.{net}
use Rattle.fabric.specs.declared.fault.CallFault.{CallFault}
use Rattle.fabric.specs.declared.network.Fabric.{Fabric}
use Rattle.routing.specs.Faults.{rule_refusal}
use Rattle.routing.specs.declared.fault.RuleFault.{RuleFault}
use Rattle.lane_check.specs.declared.setup.Setup.{Setup as CodeSetup}
use Rattle.lane_check.specs.Findings.{Finding, passed, cycle_in, refused, finding}

-- What is judged: a fabric, a lane count and a rule.
abbrev pub setup_of : Fabric → ℕ → Rule → Setup
setup_of f lanes rule = record { net = net f; lanes = lanes; rule = rule }

-- The code's setup as the model's.
abbrev pub plain_setup : {R : Type 0} → (R → Rule) → CodeSetup R → Setup
plain_setup maps s = setup_of s.fabric.now s.lanes.lanes (maps s.rule.now)

-- The refusals of the call: a lane count that is not 1 to 8, and a list that is too short.
abbrev pub bad_lane_count : Refusal
bad_lane_count = refuse call_layer 14 []

abbrev pub short_list : Refusal
short_list = refuse call_layer 13 []

abbrev pub few_lanes : ℕ → Bool
few_lanes lanes = nat_le 1 lanes && nat_le lanes 8

-- Making what is judged answers just that, or the refusal of a lane count that is not 1 to 8.
abbrev pub MakesSetup : {R : Type 0} → (R → Rule) → Setup → Result (CodeSetup R) CallFault → Type 0
MakesSetup maps g (Ok s) = (plain_setup maps s ≡ g) × (few_lanes s.lanes.lanes ≡ true)
MakesSetup maps g (Err f) = (call_refusal f ≡ Some bad_lane_count) × (few_lanes g.lanes ≡ false)

-- An order list of o bytes has one for each of n channels of each lane, and a cycle list of c bytes one for each channel.
abbrev pub long_enough : ℕ → ℕ → ℕ → ℕ → Bool
long_enough lanes n o c = nat_le (lanes * n) o && nat_le n c

-- What the tests find, in their order: the lane count, the lists, then the setup itself.
abbrev pub found : Setup → ℕ → ℕ → Finding
found g o c = cond (few_lanes g.lanes) (cond (long_enough g.lanes (count g.net) o c) (finding (verdict g)) (refused short_list)) (refused bad_lane_count)

-- The orders of the lanes, one after the other.
abbrev pub orders : Setup → List ℕ
orders g = joined (lane_order g.net g.rule) (below g.lanes)

-- The answer is a fault with this refusal.
abbrev pub Refuses : {A : Type 0} → Refusal → Result A RuleFault → Type 0
Refuses x r = MatchResult r (λ _. ⊥) (λ f. rule_refusal f ≡ Some x)

-- The answer r to what was found, and the order list o and the cycle list c before and after. A yes writes the orders, a cycle is
-- written to its list, and every other byte stays.
abbrev pub Settles : {A : Type 0} → A → Setup → Finding → List ℕ → List ℕ → List ℕ → List ℕ → Result A RuleFault → Type 0
Settles a g passed o o' c c' r = (r ≡ Ok a) × (o' ≡ orders g ++ drop (g.lanes * count g.net) o) × (c' ≡ c)
Settles a g (cycle_in ℓ) o o' c c' r =
    (cs : List ℕ) × (is_cycle (depends g.net g.rule ℓ) cs ≡ true)
    × Refuses (refuse rule_layer 8 (ℓ ∷ length cs ∷ [])) r × (o' ≡ o) × (c' ≡ cs ++ drop (length cs) c)
Settles a g (refused x) o o' c c' r = Refuses x r × (o' ≡ o) × (c' ≡ c)

-- All that the check does, for an answer that is a or a fault.
abbrev pub Checked : {A : Type 0} → A → Setup → List ℕ → List ℕ → List ℕ → List ℕ → Result A RuleFault → Type 0
Checked a g o o' c c' r = Settles a g (found g (length o) (length c)) o o' c c' r

-- Where the lanes and the lists suffice, the answer is a exactly when the setup is accepted.
abbrev pub YesExactly : {A : Type 0} → A → Setup → ℕ → ℕ → Result A RuleFault → Type 0
YesExactly a g o c r = few_lanes g.lanes ≡ true → long_enough g.lanes (count g.net) o c ≡ true → (r ≡ Ok a → Accepts g) × (Accepts g → r ≡ Ok a)
