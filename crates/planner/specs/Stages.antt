-- What the stages of planning answer.
use Rattle.std.specs.Prelude.{◌≡◌, ℕ, ◌*◌, List, Some, None, Ok, Err, Option, Result}
use Rattle.model.specs.Refusals.{Refusal}
use Rattle.model.specs.Planner.{Planned, tables, refused}
use Rattle.arrayvec.specs.ArrayVec.{ArrayVec, array_vec_len}
use Rattle.planner.specs.Faults.{topology_refusal}
use Rattle.planner.specs.declared.fault.TopologyFault.{TopologyFault}

-- A test: passed where nothing is refused, else the refusal.
abbrev pub Judges : {F : Type 0} → (F → Option Refusal) → Option Refusal → Result (Unit {0}) F → Type 0
Judges refusal_of o (Ok _) = o ≡ None
Judges refusal_of o (Err f) = (r : Refusal) × (o ≡ Some r) × (refusal_of f ≡ Some r)

-- A channel table, if nothing is refused.
abbrev pub Drafts : {X : Type 0} → Option Refusal → (X → Type 0) → Result X TopologyFault → Type 0
Drafts o P (Ok x) = (o ≡ None) × P x
Drafts o P (Err f) = (r : Refusal) × (o ≡ Some r) × (topology_refusal f ≡ Some r)

-- The lane table, n × n bytes, of a plan with this channel table, or a refusal.
abbrev pub Answers : ℕ → List ℕ → Planned → Result (ArrayVec ℕ) TopologyFault → Type 0
Answers n hops p (Ok x) = (p ≡ tables hops x.items) × (array_vec_len x ≡ n * n)
Answers n hops p (Err f) = (r : Refusal) × (p ≡ refused r) × (topology_refusal f ≡ Some r)
