-- What making a table answers.
use Rattle.std.specs.Prelude.{◌≡◌, ℕ, ◌*◌, cond, ◌||◌, List, [], length, Some, None, Ok, Err, vec_items, Option, Result, nat_lt}
use Rattle.model.specs.Refusals.{Refusal, refuse, call_layer}
use Rattle.model.specs.Rules.{Rule, table_rule}
use Rattle.routing.specs.Faults.{rule_refusal}
use Rattle.routing.specs.declared.fault.RuleFault.{RuleFault}
use Rattle.routing.specs.declared.table.Table.{Table}

-- The rule that a table stores.
abbrev pub rule_of : Table → Rule
rule_of t = table_rule t.switches (vec_items t.channels) (vec_items t.lanes)

-- The refusal of these lists for n switches: 13 where one is below n × n bytes.
abbrev pub list_refusal : ℕ → List ℕ → List ℕ → Option Refusal
list_refusal n hops lanes = cond (nat_lt (length hops) (n * n) || nat_lt (length lanes) (n * n)) (Some (refuse call_layer 13 [])) None

-- A table is exactly the rule of the two lists, whose later bytes say nothing, and nothing refuses them. A fault is their refusal;
-- want of memory, which has none, comes only where nothing refuses them.
abbrev pub MakesTable : ℕ → List ℕ → List ℕ → Result Table RuleFault → Type 0
MakesTable n hops lanes (Ok t) = (list_refusal n hops lanes ≡ None) × (rule_of t ≡ table_rule n hops lanes)
MakesTable n hops lanes (Err f) = rule_refusal f ≡ list_refusal n hops lanes
