-- What stands where in a run. A slot or a sender slot holds at most one L.
use Rattle.std.specs.Prelude.{ℕ, Bool, cond, not, ◌&&◌, List, [], ◌∷◌, is_some, Some, None, Option, ◌==◌}
use Rattle.std.specs.Option.{option_map}

-- By channel and lane what the slot holds and its turn mark; by switch and lane what the sender slot holds.
pub record State (L : Type 0) : Type 0 where
  pub slot : ℕ → ℕ → Option L
  pub mark : ℕ → ℕ → ℕ
  pub sender : ℕ → ℕ → Option L

-- The map f with x at (a, b).
abbrev pub put : {X : Type 0} → (ℕ → ℕ → X) → ℕ → ℕ → X → ℕ → ℕ → X
put f a b x i j = cond (i == a && j == b) x (f i j)

abbrev pub listed : {L : Type 0} → Option L → List L
listed None = []
listed (Some x) = x ∷ []

module _ {L : Type 0} where
  -- Nothing is under way, and every mark is 0.
  abbrev pub empty : State L
  empty = record { slot = λ _ _. None; mark = λ _ _. 0; sender = λ _ _. None }

  abbrev pub with_slot : State L → ℕ → ℕ → Option L → State L
  with_slot s c ℓ x = record { slot = put s.slot c ℓ x; mark = s.mark; sender = s.sender }

  abbrev pub with_mark : State L → ℕ → ℕ → ℕ → State L
  with_mark s c ℓ m = record { slot = s.slot; mark = put s.mark c ℓ m; sender = s.sender }

  abbrev pub with_sender : State L → ℕ → ℕ → Option L → State L
  with_sender s u ℓ x = record { slot = s.slot; mark = s.mark; sender = put s.sender u ℓ x }

  -- What the slot (c, ℓ) holds, front first.
  abbrev pub held_in : State L → ℕ → ℕ → List L
  held_in s c ℓ = listed (s.slot c ℓ)

  -- The front of the slot, whether there is room in it, and the slot with one more or without its front.
  abbrev pub front : State L → ℕ → ℕ → Option L
  front s c ℓ = s.slot c ℓ

  abbrev pub has_room : State L → ℕ → ℕ → Bool
  has_room s c ℓ = not (is_some (s.slot c ℓ))

  abbrev pub with_put : State L → ℕ → ℕ → Option L → State L
  with_put s c ℓ x = with_slot s c ℓ x

  abbrev pub with_taken : State L → ℕ → ℕ → State L
  with_taken s c ℓ = with_slot s c ℓ None

-- The same with another K in the place of each L.
abbrev pub each : {L K : Type 0} → (L → K) → State L → State K
each f s = record { slot = λ c ℓ. option_map f (s.slot c ℓ); mark = s.mark; sender = λ u ℓ. option_map f (s.sender u ℓ) }
