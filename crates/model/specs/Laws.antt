-- Laws of orders, cycles, routes and holds, and that the places of posts change no answer.
use Rattle.std.specs.Prelude.{◌≡◌, ℕ, ◌<◌, ◌≤◌, true, false, ◌⊎◌, List, [], ◌∷◌, ◌++◌, map, length, ◌≢◌}
use Rattle.model.specs.Lists.{is_in, different}
use Rattle.model.specs.Net.{Net, count, start_of, finish_of, is_pair, joins}
use Rattle.model.specs.Positions.{position_count}
use Rattle.model.specs.Rules.{Setup}
use Rattle.model.specs.Routes.{Edge, stops, tires, Arrives, has, route, route_ends, lane_deps, depends, is_cycle}
use Rattle.model.specs.Order.{order_of, completes, lane_order}
use Rattle.model.specs.Verdicts.{Accepts, Verdict, fine, stopped, unreached, laneless, cyclic, verdict}
use Rattle.model.specs.Waits.{turn_cost, hold}
use Rattle.model.specs.Planner.{hops}
use Rattle.model.specs.Walks.{Fewest}
use Rattle.model.specs.Packets.{bare, Call, said}
use Rattle.model.specs.State.{each}
use Rattle.model.specs.Run.{step}
use Rattle.model.specs.History.{state_after, reply}

-- The verdict is yes exactly when the setup is accepted.
abbrev pub VerdictExact : Type 0
VerdictExact = (g : Setup) → (verdict g ≡ fine → Accepts g) × (Accepts g → verdict g ≡ fine)

-- Lane ℓ has a cycle.
abbrev pub HasCycle : Setup → ℕ → Type 0
HasCycle g ℓ = (cs : List ℕ) × (is_cycle (depends g.net g.rule ℓ) cs ≡ true)

-- A cycle verdict's lane is the lowest with a cycle.
abbrev pub CyclicLowest : Type 0
CyclicLowest = (g : Setup) (ℓ : ℕ) → verdict g ≡ cyclic ℓ → (ℓ < g.lanes) × HasCycle g ℓ × ((m : ℕ) → m < ℓ → HasCycle g m → ⊥)

-- The pair (s, d) passes: it arrives, in a lane below the count.
pub record Passes (g : Setup) (s d : ℕ) : Type 0 where
  pub arrive : Arrives g.net g.rule s d
  pub in_lane : g.rule.lane s d < g.lanes

-- (s, d) is a pair, and every pair before it, by source and then destination, passes.
pub record FirstPair (g : Setup) (s d : ℕ) : Type 0 where
  pub pair : is_pair g.net.switches s d ≡ true
  pub before : (a b : ℕ) → is_pair g.net.switches a b ≡ true → (a < s) ⊎ ((a ≡ s) × (b < d)) → Passes g a b

-- What each verdict says: the first pair whose route stops, and where; whose destination is not reached; whose lane does not exist;
-- or, where every pair passes, the lowest lane with a cycle.
abbrev pub Says : Setup → Verdict → Type 0
Says g fine = Accepts g
Says g (stopped s d u) = FirstPair g s d × (route_ends g.net g.rule s d ≡ stops u)
Says g (unreached s d) = FirstPair g s d × (route_ends g.net g.rule s d ≡ tires)
Says g (laneless s d) = FirstPair g s d × Arrives g.net g.rule s d × (g.lanes ≤ g.rule.lane s d)
Says g (cyclic ℓ) =
    ((s d : ℕ) → is_pair g.net.switches s d ≡ true → Passes g s d)
    × (ℓ < g.lanes) × HasCycle g ℓ × ((m : ℕ) → m < ℓ → HasCycle g m → ⊥)

abbrev pub VerdictSays : Type 0
VerdictSays = (g : Setup) → Says g (verdict g)

-- An order of n channels that is complete: it holds every channel once, and no dependency runs backward in it.
pub record Ordered (n : ℕ) (es : List Edge) (order : List ℕ) : Type 0 where
  pub size : length order ≡ n
  pub once : different order ≡ true
  pub inside : (c : ℕ) → is_in c order ≡ true → c < n
  pub all : (c : ℕ) → c < n → is_in c order ≡ true
  pub forward : (xs ys : List ℕ) (b c : ℕ) → order ≡ xs ++ (c ∷ ys) → has es b c ≡ true → b < n → is_in b xs ≡ true

abbrev pub OrderExact : Type 0
OrderExact = (n : ℕ) (es : List Edge) → completes n es ≡ true → Ordered n es (order_of n es)

-- On an accepted setup the order of every lane is complete.
abbrev pub AcceptedOrdered : Type 0
AcceptedOrdered = (g : Setup) → Accepts g → (ℓ : ℕ) → ℓ < g.lanes
    → Ordered (count g.net) (lane_deps g.net g.rule ℓ) (lane_order g.net g.rule ℓ)

-- Every dependency is between channels below n, and none leads back to its own channel.
pub record Loopless (n : ℕ) (es : List Edge) : Type 0 where
  pub inside : (b c : ℕ) → has es b c ≡ true → (b < n) × (c < n)
  pub apart : (c : ℕ) → has es c c ≡ false

-- There is a cycle exactly when the order cannot be completed.
abbrev pub CycleExact : Type 0
CycleExact = (n : ℕ) (es : List Edge) → Loopless n es
    → (completes n es ≡ true → (cs : List ℕ) → is_cycle (has es) cs ≢ true)
    × (completes n es ≡ false → (cs : List ℕ) × (is_cycle (has es) cs ≡ true))

-- On an accepted setup the switches of a route all differ, and so do its channels.
abbrev pub RouteOnce : Type 0
RouteOnce = (g : Setup) → Accepts g → (s d : ℕ) → is_pair g.net.switches s d ≡ true
    → (different (s ∷ map (finish_of g.net) (route g.net g.rule s d)) ≡ true)
    × (different (route g.net g.rule s d) ≡ true)

-- On an accepted setup a route never returns to the switch it just came from.
abbrev pub RouteOnward : Type 0
RouteOnward = (g : Setup) → Accepts g → (s d : ℕ) → is_pair g.net.switches s d ≡ true
    → (xs ys : List ℕ) (b c : ℕ) → route g.net g.rule s d ≡ xs ++ (b ∷ (c ∷ ys)) → finish_of g.net c ≢ start_of g.net b

-- The hold is the largest of 1 and the turn costs of the dependencies: at least 1, at least each of them, and one of these.
pub record Held (g : Setup) (ℓ c : ℕ) : Type 0 where
  pub one : 1 ≤ hold g ℓ c
  pub each : (c' : ℕ) → depends g.net g.rule ℓ c c' ≡ true → turn_cost (position_count g.net c') (hold g ℓ c') ≤ hold g ℓ c
  pub least : (hold g ℓ c ≡ 1)
      ⊎ ((c' : ℕ) × (depends g.net g.rule ℓ c c' ≡ true) × (hold g ℓ c ≡ turn_cost (position_count g.net c') (hold g ℓ c')))

abbrev pub HoldExact : Type 0
HoldExact = (g : Setup) → Accepts g → (ℓ c : ℕ) → ℓ < g.lanes → c < count g.net → Held g ℓ c

-- Leaving the places of the posts out changes no answer: the rules over bare packets, fed what the reference run shows, show
-- what it shows next and answer as it does.
abbrev pub PlacesUnseen : Type 0
PlacesUnseen = (g : Setup) (h : List Call) (c : Call)
    → let next = step (λ p. p) (λ p. p) g (each bare (state_after g h)) c in
    (next.state ≡ each bare (state_after g (h ++ c ∷ []))) × (said (λ p. p) next.event ≡ reply g h c)

-- The planner's hop count from one switch to another is the fewest channels of a walk, or none.
abbrev pub HopsExact : Type 0
HopsExact = (net : Net) → ((c : ℕ) → c < count net → (start_of net c < net.switches) × (finish_of net c < net.switches))
    → (u d : ℕ) → u < net.switches → d < net.switches → Fewest (joins net) net.switches u d (hops net u d)
