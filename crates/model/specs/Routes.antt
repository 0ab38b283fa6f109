-- Routes, dependencies and cycles.
use Rattle.std.specs.Prelude.{◌≡◌, ℕ, zero, suc, ◌-◌, ◌<◌, ◌≤◌, Bool, false, cond, not, ◌&&◌, List, [], ◌∷◌, map, length, Some, None, Option, ◌==◌, ◌≢◌, nat_eq, nat_le}
use Rattle.model.specs.Lists.{below, any_of, keep, joined, different}
use Rattle.model.specs.Net.{Net, count, start_of, finish_of, leaves}
use Rattle.model.specs.Rules.{Rule}

-- The way from switch u to switch d: at each switch other than d the rule's channel, which exists and leaves that switch.
pub data Way (net : Net) (rule : Rule) (d : ℕ) : ℕ → List ℕ → Type 0 where
  home : Way net rule d d []
  onto : {u c : ℕ} {cs : List ℕ} → (u ≢ d) → rule.next u d ≡ Some c → c < count net → start_of net c ≡ u
      → Way net rule d (finish_of net c) cs → Way net rule d u (c ∷ cs)

-- The pair (s, d) arrives: a way of at most n - 1 channels leads from s to d.
pub record Arrives (net : Net) (rule : Rule) (s d : ℕ) : Type 0 where
  pub way : List ℕ
  pub goes : Way net rule d s way
  pub short : length way ≤ net.switches - 1

-- The rule's channel at u if it is fit: it exists and leaves u.
abbrev pub fit : Net → ℕ → Option ℕ → Option ℕ
fit net u None = None
fit net u (Some c) = cond (leaves net c u) (Some c) None

-- The channel that a route to d takes at u: none at d itself, and none where the rule's channel is unfit.
abbrev pub hop : Net → Rule → ℕ → ℕ → Option ℕ
hop net rule u d = cond (u == d) None (fit net u (rule.next u d))

-- The channels taken from u on, at most k of them.
abbrev pub walk : Net → Rule → ℕ → ℕ → ℕ → List ℕ
walk net rule zero u d = []
walk net rule (suc k) u d = elim (hop net rule u d) [ None ↦ [] | Some c ↦ c ∷ walk net rule k (finish_of net c) d ]

-- How that ends: at d; at a switch whose channel is none, missing or leaves another switch; or not at d after k channels.
pub data Ending : Type 0 where
  arrives : Ending
  stops : ℕ → Ending
  tires : Ending

abbrev pub ending : Net → Rule → ℕ → ℕ → ℕ → Ending
ending net rule zero u d = cond (u == d) arrives tires
ending net rule (suc k) u d =
    elim (hop net rule u d) [ None ↦ cond (u == d) arrives (stops u) | Some c ↦ ending net rule k (finish_of net c) d ]

-- The route of the pair (s, d): n - 1 channels at most.
abbrev pub route : Net → Rule → ℕ → ℕ → List ℕ
route net rule s d = walk net rule (net.switches - 1) s d

abbrev pub route_ends : Net → Rule → ℕ → ℕ → Ending
route_ends net rule s d = ending net rule (net.switches - 1) s d

pub record Pair : Type 0 where
  pub source : ℕ
  pub destination : ℕ

-- The pairs of n switches, by source, then destination.
abbrev pub pairs_of : ℕ → List Pair
pairs_of n = joined (λ s. map (λ d. record { source = s; destination = d }) (keep (λ d. not (s == d)) (below n))) (below n)

-- A dependency: some pair takes the channel `tail` and directly after it the channel `head`.
pub record Edge : Type 0 where
  pub tail : ℕ
  pub head : ℕ

-- The channels of a route taken directly one after the other.
abbrev pub steps : List ℕ → List Edge
steps [] = []
steps (c ∷ []) = []
steps (c ∷ (c' ∷ cs)) = record { tail = c; head = c' } ∷ steps (c' ∷ cs)

-- The dependencies of lane ℓ: those of each of its pairs.
abbrev pub lane_deps : Net → Rule → ℕ → List Edge
lane_deps net rule ℓ =
    joined (λ p. steps (route net rule p.source p.destination)) (keep (λ p. nat_eq (rule.lane p.source p.destination) ℓ) (pairs_of net.switches))

abbrev pub has : List Edge → ℕ → ℕ → Bool
has es c c' = any_of (λ e. (e.tail == c) && e.head == c') es

-- Lane ℓ has a dependency from c to c'.
abbrev pub depends : Net → Rule → ℕ → ℕ → ℕ → Bool
depends net rule ℓ = has (lane_deps net rule ℓ)

-- Each node of a list leads to the next, and the last to a.
abbrev pub chained : (ℕ → ℕ → Bool) → ℕ → ℕ → List ℕ → Bool
chained e a c [] = e c a
chained e a c (c' ∷ cs) = e c c' && chained e a c' cs

abbrev pub closed : (ℕ → ℕ → Bool) → List ℕ → Bool
closed e [] = false
closed e (c ∷ cs) = chained e c c cs

-- A cycle: two or more different nodes, each with an edge to the next and the last to the first.
abbrev pub is_cycle : (ℕ → ℕ → Bool) → List ℕ → Bool
is_cycle e cs = nat_le 2 (length cs) && different cs && closed e cs
