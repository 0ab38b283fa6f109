-- What the planner answers.
use Rattle.std.specs.Prelude.{◌≡◌, ℕ, ◌*◌, Bool, true, cond, ◌&&◌, List, [], ◌++◌, length, drop, Some, None, Ok, Err, Option, Result, nat_le}
use Rattle.model.specs.Net.{Net}
use Rattle.model.specs.Rules.{table_rule}
use Rattle.model.specs.Routes.{pairs_of}
use Rattle.model.specs.Refusals.{Refusal, refuse, call_layer}
use Rattle.model.specs.Planner.{Planned, tables, refused, unless, hop_table, copied, path_refusal, routes_refusal, planned}
use Rattle.fabric.specs.Of.{net}
use Rattle.planner.specs.Faults.{topology_refusal}
use Rattle.planner.specs.declared.draft.Draft.{Draft}
use Rattle.planner.specs.declared.fault.TopologyFault.{TopologyFault}

-- A given table, if there is one, has n × n bytes or more.
abbrev pub given_long : ℕ → Option (List ℕ) → Bool
given_long n None = true
given_long n (Some table) = nat_le (n * n) (length table)

-- The refusal of the tables: 13 where one is below n × n bytes.
abbrev pub list_test : ℕ → Option (List ℕ) → ℕ → ℕ → Option Refusal
list_test n given c l = cond (nat_le (n * n) c && nat_le (n * n) l && given_long n given) None (Some (refuse call_layer 13 []))

-- The refusal of the call: 14 where the lane count is not 1 to 8, then that of the tables.
abbrev pub call_test : ℕ → ℕ → Option (List ℕ) → ℕ → ℕ → Option Refusal
call_test n lanes given c l = cond (nat_le 1 lanes && nat_le lanes 8) (list_test n given c l) (Some (refuse call_layer 14 []))

-- The channel table to file by: the given one, or else the channels one hop nearer.
abbrev pub table_of : Net → Option (List ℕ) → List ℕ
table_of net None = hop_table net
table_of net (Some given) = copied net.switches given

-- Its refusal: by the routes of a given table, or else by the paths.
abbrev pub table_refusal : Net → Option (List ℕ) → Option Refusal
table_refusal net None = path_refusal net (pairs_of net.switches)
table_refusal net (Some given) = routes_refusal net (table_rule net.switches (copied net.switches given) []) (pairs_of net.switches)

-- x holds this channel table of a fabric.
abbrev pub Drafted : Net → List ℕ → Draft → Type 0
Drafted net' table x = (net x.fabric.now ≡ net') × (x.cells.items ≡ table)

-- The whole answer: the tests of the call, then the plan.
abbrev pub answer : Net → ℕ → Option (List ℕ) → ℕ → ℕ → Planned
answer net lanes given c l = let plan = planned net lanes given in unless (call_test net.switches lanes given c l) plan

-- Two tables are in the fronts of the two lists, whose later bytes stay. A fault is the refusal, and both lists stay as they were.
abbrev pub Plans : Net → ℕ → Option (List ℕ) → List ℕ → List ℕ → List ℕ → List ℕ → Result (Unit {0}) TopologyFault → Type 0
Plans net lanes given c c' l l' (Ok _) =
    (hops : List ℕ) × (lane : List ℕ) × (answer net lanes given (length c) (length l) ≡ tables hops lane)
    × (c' ≡ hops ++ drop (net.switches * net.switches) c)
    × (l' ≡ lane ++ drop (net.switches * net.switches) l)
Plans net lanes given c c' l l' (Err f) =
    (r : Refusal) × (answer net lanes given (length c) (length l) ≡ refused r) × (topology_refusal f ≡ Some r) × (c' ≡ c) × (l' ≡ l)
