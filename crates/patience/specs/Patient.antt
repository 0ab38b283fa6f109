-- What the patience call answers.
use Rattle.std.specs.Prelude.{◌≡◌, ℕ, List, Result}
use Rattle.std.specs.Bool.{MatchBool}
use Rattle.model.specs.Net.{is_pair}
use Rattle.model.specs.Rules.{Setup}
use Rattle.model.specs.Run.{missing_number}
use Rattle.model.specs.Waits.{patience}
use Rattle.routing.specs.declared.fault.RuleFault.{RuleFault}
use Rattle.lane_check.specs.Checks.{Checked, Refuses}
use Rattle.patience.specs.Caps.{capped}

-- Refusal 11 comes first, for what is no pair, and leaves both lists as they were. Else all is as the check does it, and a yes tells
-- the pair's patience, or 4,294,967,295 where it is more.
abbrev pub Patient : Setup → ℕ → ℕ → List ℕ → List ℕ → List ℕ → List ℕ → Result ℕ RuleFault → Type 0
Patient g s d o o' c c' r =
    MatchBool (is_pair g.net.switches s d) (Checked (capped (patience g s d)) g o o' c c' r) (Refuses missing_number r × (o' ≡ o) × (c' ≡ c))
