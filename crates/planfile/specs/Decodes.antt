-- What decoding a file answers.
use Rattle.std.specs.Prelude.{◌≡◌, ℕ, List, Ok, Err, Result, MatchOption}
use Rattle.fabric.specs.Of.{net}
use Rattle.routing.specs.Tables.{rule_of}
use Rattle.planfile.specs.Faults.{file_refusal}
use Rattle.planfile.specs.File.{file_bytes}
use Rattle.planfile.specs.Refused.{PlanFile, Refused}
use Rattle.planfile.specs.declared.fault.FileFault.{FileFault}
use Rattle.planfile.specs.declared.plan.Plan.{Plan}

-- A plan's own file.
abbrev pub plan_bytes : Plan → List ℕ
plan_bytes p = file_bytes (net p.fabric) p.lanes (rule_of p.table)

-- A fault is the refusal of the bytes; want of memory, which is none, comes only where nothing refuses them.
abbrev pub Refuses : List ℕ → FileFault → Type 0
Refuses bs f = MatchOption (file_refusal f) (PlanFile bs) (Refused bs)

-- A plan is exactly what the bytes say, and nothing refuses them.
abbrev pub Decodes : List ℕ → Result Plan FileFault → Type 0
Decodes bs (Ok p) = PlanFile bs × (bs ≡ plan_bytes p)
Decodes bs (Err f) = Refuses bs f
