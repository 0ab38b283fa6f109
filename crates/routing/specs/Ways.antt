-- Routes hop by hop, and step by step.
use Rattle.std.specs.Prelude.{◌≡◌, ℕ, ◌<◌, List, [], ◌∷◌, Some, None, Option, ◌≢◌}
use Rattle.model.specs.Net.{Net, count}
use Rattle.model.specs.Rules.{Rule}
use Rattle.model.specs.Routes.{Edge, Ending, walk, ending, steps}
use Rattle.fabric.specs.Of.{net}
use Rattle.routing.specs.Walks.{Leads}
use Rattle.routing.specs.declared.route.Route.{Route}
use Rattle.routing.specs.declared.route.Step.{Step}
use Rattle.routing.specs.declared.route.Steps.{Steps}
use Rattle.routing.specs.declared.walk.Hop.{Hop}

-- The channels that a route has still to take.
abbrev pub way : {R : Type 0} → (R → Rule) → Route R → List ℕ
way maps r = walk (net r.fabric.now) (maps r.rule.now) r.hops r.switch r.destination

-- How the route ends, from where it has come to.
abbrev pub ends_as : {R : Type 0} → (R → Rule) → Route R → Ending
ends_as maps r = ending (net r.fabric.now) (maps r.rule.now) r.hops r.switch r.destination

-- The route goes on over the first of them, which leaves the switch that it has come to; it ends where none is left.
abbrev pub NextHop : {R : Type 0} → (R → Rule) → Route R → Option Hop → Route R → Type 0
NextHop maps was None is = (is.fabric.now ≡ was.fabric.now) × (way maps was ≡ []) × (way maps is ≡ []) × (ends_as maps is ≡ ends_as maps was)
NextHop maps was (Some hop) is =
    (is.fabric.now ≡ was.fabric.now) × (way maps was ≡ hop.channel ∷ way maps is) × Leads (net was.fabric.now) was.switch hop
    × (hop.channel < 128) × (is.switch ≡ hop.to) × (ends_as maps is ≡ ends_as maps was)

-- The step as the model's.
abbrev pub edge_of : Step → Edge
edge_of x = record { tail = x.tail; head = x.head }

-- The steps that a route has still to make, after the channel that it took last.
abbrev pub steps_after : Option ℕ → List ℕ → List Edge
steps_after None cs = []
steps_after (Some c) cs = steps (c ∷ cs)

abbrev pub steps_left : {R : Type 0} → (R → Rule) → Steps R → List Edge
steps_left maps x = steps_after x.last (way maps x.rest)

-- A step joins two different channels of a fabric.
pub record IsStep (n : Net) (x : Step) : Type 0 where
  pub from : x.tail < count n
  pub to : x.head < count n
  pub apart : x.tail ≢ x.head

-- The first of them comes, and then the others; none comes where none is left.
abbrev pub NextStep : {R : Type 0} → (R → Rule) → Steps R → Option Step → Steps R → Type 0
NextStep maps was None is = (is.rest.fabric.now ≡ was.rest.fabric.now) × (steps_left maps was ≡ []) × (steps_left maps is ≡ [])
NextStep maps was (Some x) is =
    (is.rest.fabric.now ≡ was.rest.fabric.now) × (steps_left maps was ≡ edge_of x ∷ steps_left maps is) × IsStep (net was.rest.fabric.now) x
