-- What the check finds, by the model's verdict.
use Rattle.std.specs.Prelude.{◌≡◌, ℕ, [], ◌∷◌, Ok, Err, Result, MatchOption, nat_lt}
use Rattle.model.specs.Lists.{below}
use Rattle.model.specs.Refusals.{Refusal, refuse, rule_layer}
use Rattle.model.specs.Rules.{Setup}
use Rattle.model.specs.Routes.{Pair, route_ends}
use Rattle.model.specs.Verdicts.{Verdict, fine, stopped, unreached, laneless, cyclic, pair_verdict, lanes_verdict, verdict}
use Rattle.routing.specs.Faults.{rule_refusal}
use Rattle.routing.specs.declared.fault.RuleFault.{RuleFault}

-- Nothing, a cycle in a lane, or what is refused at once.
pub data Finding : Type 0 where
  passed : Finding
  cycle_in : ℕ → Finding
  refused : Refusal → Finding

abbrev pub finding : Verdict → Finding
finding fine = passed
finding (stopped s d u) = refused (refuse rule_layer 5 (s ∷ d ∷ u ∷ []))
finding (unreached s d) = refused (refuse rule_layer 6 (s ∷ d ∷ []))
finding (laneless s d) = refused (refuse rule_layer 7 (s ∷ d ∷ []))
finding (cyclic ℓ) = cycle_in ℓ

-- A fault is what the verdict finds; without one the verdict is that of the rest.
abbrev pub Tells : Verdict → Verdict → Result (Unit {0}) RuleFault → Type 0
Tells rest v (Ok _) = v ≡ rest
Tells rest v (Err f) = MatchOption (rule_refusal f) ⊥ (λ x. finding v ≡ refused x)

-- A pair's fault by its ending and its lane, whatever the verdict on the rest.
abbrev pub PairFault : Setup → Pair → Result (Unit {0}) RuleFault → Type 0
PairFault g p r =
    (rest : Verdict)
    → Tells rest (pair_verdict p.source p.destination (nat_lt (g.rule.lane p.source p.destination) g.lanes) (route_ends g.net g.rule p.source p.destination) rest) r

-- The first fault of all pairs; without one the verdict is that on the lanes.
abbrev pub FirstFault : Setup → Result (Unit {0}) RuleFault → Type 0
FirstFault g r = Tells (lanes_verdict g.net g.rule (below g.lanes)) (verdict g) r
