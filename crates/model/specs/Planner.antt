-- The planner: shortest routes, and each pair in the lowest lane that stays without a cycle.
use Rattle.std.specs.Prelude.{ℕ, zero, suc, ◌+◌, ◌*◌, Bool, true, false, cond, List, [], ◌∷◌, ◌++◌, map, replicate, is_some, Some, None, Option, ◌==◌, slice_index_or, slice_set}
use Rattle.model.specs.Lists.{below, any_of, keep, joined, first}
use Rattle.model.specs.Net.{Net, Channel, count, finish_of, leaves}
use Rattle.model.specs.Refusals.{Refusal, refuse, rule_layer, topology_layer}
use Rattle.model.specs.Rules.{Rule, table_rule}
use Rattle.model.specs.Routes.{Edge, Pair, Ending, arrives, stops, tires, pairs_of, steps, route, route_ends}
use Rattle.model.specs.Order.{completes}

-- Switch d can be reached from switch u over at most k channels.
abbrev pub within : List Channel → ℕ → ℕ → ℕ → Bool
within cs zero u d = u == d
within cs (suc k) u d =
    elim (u == d) [
      | true ↦ true
      | false ↦ any_of (λ c. elim (c.start == u) [ true ↦ within cs k c.finish d | false ↦ false ]) cs
    ]

-- The fewest channels from u to d, if d can be reached.
abbrev pub hops : Net → ℕ → ℕ → Option ℕ
hops net u d = first (λ k. within net.channels k u d) (below net.switches)

abbrev pub one_more : Option ℕ → Option ℕ → Bool
one_more None far = false
one_more (Some k) None = false
one_more (Some k) (Some m) = suc k == m

-- The channels that leave u for a switch one hop nearer to d, ascending.
abbrev pub nearer : Net → ℕ → ℕ → List ℕ
nearer net u d =
    let far = hops net u d in
    keep (λ c. elim (leaves net c u) [ true ↦ one_more (hops net (finish_of net c) d) far | false ↦ false ]) (below (count net))

-- The one that the planner takes: the lowest.
abbrev pub chosen : List ℕ → Option ℕ
chosen [] = None
chosen (c ∷ cs) = Some c

abbrev pub byte_of : Option ℕ → ℕ
byte_of None = 255
byte_of (Some c) = c

-- n × n bytes by row, with 255 on the diagonal.
abbrev pub square : ℕ → (ℕ → ℕ → ℕ) → List ℕ
square n f = joined (λ u. map (λ d. elim (u == d) [ true ↦ 255 | false ↦ f u d ]) (below n)) (below n)

abbrev pub hop_table : Net → List ℕ
hop_table net = square net.switches (λ u d. byte_of (chosen (nearer net u d)))

-- A given channel table, whose diagonal is not read.
abbrev pub copied : ℕ → List ℕ → List ℕ
copied n table = square n (λ u d. slice_index_or table (u * n + d) 255)

-- What the planner answers: a channel table and a lane table, or a refusal.
pub data Planned : Type 0 where
  tables : List ℕ → List ℕ → Planned
  refused : Refusal → Planned

-- Pair by pair: 5 where its route stops, at which switch, and 6 where the destination is not reached.
abbrev pub ending_refusal : ℕ → ℕ → Ending → Option Refusal
ending_refusal s d arrives = None
ending_refusal s d (stops u) = Some (refuse rule_layer 5 (s ∷ d ∷ u ∷ []))
ending_refusal s d tires = Some (refuse rule_layer 6 (s ∷ d ∷ []))

abbrev pub otherwise : Option Refusal → Option Refusal → Option Refusal
otherwise None next = next
otherwise (Some r) next = Some r

abbrev pub routes_refusal : Net → Rule → List Pair → Option Refusal
routes_refusal net rule [] = None
routes_refusal net rule (p ∷ ps) =
    otherwise (ending_refusal p.source p.destination (route_ends net rule p.source p.destination)) (routes_refusal net rule ps)

-- 9: the first pair without a path.
abbrev pub path_refusal : Net → List Pair → Option Refusal
path_refusal net [] = None
path_refusal net (p ∷ ps) =
    cond (is_some (hops net p.source p.destination)) (path_refusal net ps) (Some (refuse topology_layer 9 (p.source ∷ p.destination ∷ [])))

-- The lowest lane, of those counted from i, that stays without a cycle under new dependencies; each lane's dependencies so far.
abbrev pub fits_at : ℕ → List Edge → ℕ → List (List Edge) → Option ℕ
fits_at n new i [] = None
fits_at n new i (es ∷ ess) = elim (completes n (new ++ es)) [ true ↦ Some i | false ↦ fits_at n new (suc i) ess ]

-- The pairs filed one after the other, each in the lowest lane that fits; 10 where none does.
abbrev pub file_from : Net → Rule → List ℕ → List Pair → List (List Edge) → List ℕ → Planned
file_from net rule table [] ess lanes = tables table lanes
file_from net rule table (p ∷ ps) ess lanes =
    let new = steps (route net rule p.source p.destination) in
    elim (fits_at (count net) new 0 ess) [
      | None ↦ refused (refuse topology_layer 10 (p.source ∷ p.destination ∷ []))
      | Some i ↦
          file_from net rule table ps (slice_set ess i (new ++ slice_index_or ess i [])) (slice_set lanes (p.source * net.switches + p.destination) i)
    ]

abbrev pub filed : Net → ℕ → List ℕ → Planned
filed net lanes table =
    let n = net.switches in
    file_from net (table_rule n table []) table (pairs_of n) (replicate lanes []) (replicate (n * n) 255)

abbrev pub unless : Option Refusal → Planned → Planned
unless None p = p
unless (Some r) p = refused r

-- The plan without a given table, and with one.
abbrev pub planned : Net → ℕ → Option (List ℕ) → Planned
planned net lanes None =
    let rest = filed net lanes (hop_table net) in
    unless (path_refusal net (pairs_of net.switches)) rest
planned net lanes (Some given) =
    let n = net.switches in
    let table = copied n given in
    let rest = filed net lanes table in
    unless (routes_refusal net (table_rule n table []) (pairs_of n)) rest
