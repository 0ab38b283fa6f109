-- Worked examples.
use Rattle.std.specs.Prelude.{◌≡◌, ℕ, ◌+◌, ◌%◌, true, ◌⊎◌, List, [], ◌∷◌, Some, None}
use Rattle.model.specs.Lists.{below, joined}
use Rattle.model.specs.Net.{Net, net_of}
use Rattle.model.specs.Refusals.{refuse, topology_layer}
use Rattle.model.specs.Rules.{Setup, table_rule, grid_net, grid_rule}
use Rattle.model.specs.Routes.{route, depends, is_cycle}
use Rattle.model.specs.Order.{lane_order}
use Rattle.model.specs.Verdicts.{Accepts, verdict, cyclic}
use Rattle.model.specs.Waits.{patience}
use Rattle.model.specs.Planner.{planned, tables, refused}
use Rattle.model.specs.Packets.{make, look, look_sender, post, serve, says_taken, says_delivered, says_moved, says_waits, says_idle, says_holds, says_refused}
use Rattle.model.specs.Run.{sender_taken}
use Rattle.model.specs.History.{replies}

-- A ring of m switches: link i joins switch i to i + 1, the last one to 0.
abbrev pub ring_ends : ℕ → List ℕ
ring_ends m = joined (λ i. i ∷ ((i + 1) % m ∷ [])) (below m)

-- Its channels are 0: 0 to 1, 1: 1 to 0, 2: 1 to 2, 3: 2 to 1, 4: 2 to 3, 5: 3 to 2, 6: 3 to 0, 7: 0 to 3.
abbrev pub ring_of_four : Net
ring_of_four = net_of 4 (ring_ends 4)

-- Its planned channel table, and all pairs in lane 0.
abbrev pub planned_hops : List ℕ
planned_hops =
    255 ∷ 0 ∷ 0 ∷ 7 ∷
    1 ∷ 255 ∷ 2 ∷ 1 ∷
    3 ∷ 3 ∷ 255 ∷ 4 ∷
    6 ∷ 5 ∷ 5 ∷ 255 ∷ []

abbrev pub all_in_lane_zero : List ℕ
all_in_lane_zero =
    255 ∷ 0 ∷ 0 ∷ 0 ∷
    0 ∷ 255 ∷ 0 ∷ 0 ∷
    0 ∷ 0 ∷ 255 ∷ 0 ∷
    0 ∷ 0 ∷ 0 ∷ 255 ∷ []

abbrev pub planned_ring : Setup
planned_ring = record { net = ring_of_four; lanes = 1; rule = table_rule 4 planned_hops all_in_lane_zero }

-- A channel table by which the pairs (0,2), (1,3), (2,0) and (3,1) go round the ring the same way.
abbrev pub round_hops : List ℕ
round_hops =
    255 ∷ 0 ∷ 0 ∷ 7 ∷
    1 ∷ 255 ∷ 2 ∷ 2 ∷
    4 ∷ 3 ∷ 255 ∷ 4 ∷
    6 ∷ 6 ∷ 5 ∷ 255 ∷ []

abbrev pub last_in_lane_one : List ℕ
last_in_lane_one =
    255 ∷ 0 ∷ 0 ∷ 0 ∷
    0 ∷ 255 ∷ 0 ∷ 0 ∷
    0 ∷ 0 ∷ 255 ∷ 0 ∷
    0 ∷ 1 ∷ 0 ∷ 255 ∷ []

abbrev pub round_ring : Setup
round_ring = record { net = ring_of_four; lanes = 1; rule = table_rule 4 round_hops all_in_lane_zero }

-- The ring of four, planned: (0,2), (1,3), (2,0) and (3,1) begin with channels 0, 1, 3 and 5, and all pairs lie in lane 0.
abbrev pub RingPlanned : Type 0
RingPlanned = planned ring_of_four 1 None ≡ tables planned_hops all_in_lane_zero

-- The order of its one lane.
abbrev pub RingOrder : Type 0
RingOrder = lane_order ring_of_four planned_ring.rule 0 ≡ 0 ∷ 2 ∷ 4 ∷ 5 ∷ 3 ∷ 1 ∷ 6 ∷ 7 ∷ []

-- Its patience.
abbrev pub RingPatience : Type 0
RingPatience = (patience planned_ring 0 1 ≡ 22) × (patience planned_ring 0 2 ≡ 28) × (patience planned_ring 3 1 ≡ 268)

-- It is accepted.
abbrev pub RingAccepted : Type 0
RingAccepted = Accepts planned_ring

-- With two lanes and the table that goes round, pair (3,1) goes to lane 1 and the rest to lane 0.
abbrev pub RoundTwoLanes : Type 0
RoundTwoLanes = planned ring_of_four 2 (Some round_hops) ≡ tables round_hops last_in_lane_one

-- With one lane no lane fits at (3,1).
abbrev pub RoundOneLane : Type 0
RoundOneLane = planned ring_of_four 1 (Some round_hops) ≡ refused (refuse topology_layer 10 (3 ∷ 1 ∷ []))

-- The list 0 2 4 6 from one of its members on.
abbrev pub RoundFromAny : List ℕ → Type 0
RoundFromAny cs =
    (cs ≡ 0 ∷ 2 ∷ 4 ∷ 6 ∷ []) ⊎ ((cs ≡ 2 ∷ 4 ∷ 6 ∷ 0 ∷ []) ⊎ ((cs ≡ 4 ∷ 6 ∷ 0 ∷ 2 ∷ []) ⊎ (cs ≡ 6 ∷ 0 ∷ 2 ∷ 4 ∷ [])))

-- With all pairs in lane 0 the verdict is a cycle in lane 0; 0 2 4 6 is one, every cycle of that lane is this one from some start,
-- and so the setup is not accepted.
abbrev pub RoundCycle : Type 0
RoundCycle =
    (verdict round_ring ≡ cyclic 0)
    × (is_cycle (depends ring_of_four round_ring.rule 0) (0 ∷ 2 ∷ 4 ∷ 6 ∷ []) ≡ true)
    × ((cs : List ℕ) → is_cycle (depends ring_of_four round_ring.rule 0) cs ≡ true → RoundFromAny cs)
    × (Accepts round_ring → ⊥)

-- Two switches and one link.
abbrev pub OneLinkPatience : Type 0
OneLinkPatience =
    patience (record { net = net_of 2 (0 ∷ 1 ∷ []); lanes = 1; rule = table_rule 2 (255 ∷ 0 ∷ 1 ∷ 255 ∷ []) (255 ∷ 0 ∷ 0 ∷ 255 ∷ []) }) 0 1 ≡ 5

-- The grid of two by two.
abbrev pub GridRoutes : Type 0
GridRoutes = (route (grid_net 2 2) (grid_rule 2 2) 0 3 ≡ 0 ∷ 6 ∷ []) × (route (grid_net 2 2) (grid_rule 2 2) 3 0 ≡ 3 ∷ 5 ∷ [])

-- A session on the planned ring, with looks between the calls.
abbrev pub Session : Type 0
Session =
    replies planned_ring []
    (make (post 0 2 7) ∷ make (post 0 1 9) ∷ look_sender 0 0 ∷ make (serve 0 0) ∷ look 0 0 ∷ make (serve 0 0) ∷ make (serve 2 0) ∷ make (serve 2 0) ∷ make (serve 2 0) ∷ [])
    ≡ says_taken ∷ says_refused sender_taken ∷ says_holds (Some (record { source = 0; destination = 2; tag = 7 })) ∷ says_moved 0
    ∷ says_holds (Some (record { source = 0; destination = 2; tag = 7 })) ∷ says_waits ∷ says_moved 1
    ∷ says_delivered (record { source = 0; destination = 2; tag = 7 }) ∷ says_idle ∷ []

-- All of them.
pub record Worked : Type 0 where
  pub ring_planned : RingPlanned
  pub ring_order : RingOrder
  pub ring_patience : RingPatience
  pub ring_accepted : RingAccepted
  pub round_two_lanes : RoundTwoLanes
  pub round_one_lane : RoundOneLane
  pub round_cycle : RoundCycle
  pub one_link_patience : OneLinkPatience
  pub grid_routes : GridRoutes
  pub session : Session
