-- The lanes of a plan in the making.
use Rattle.std.specs.Prelude.{◌≡◌, ℕ, ◌<◌, Bool, true, false, ◌||◌, List, length, Some, None, Option, slice_index_or, slice_set}
use Rattle.std.specs.List.{All, AllWithin}
use Rattle.routing.specs.Dependencies.{leads, Adds}
use Rattle.routing.specs.declared.dependencies.Dependencies.{Dependencies}
use Rattle.planner.specs.Cycles.{Acyclic, Reach, only}

-- A lane has n channels and no cycle.
pub record Sound (n : ℕ) (x : Dependencies) : Type 0 where
  pub size : x.channels ≡ n
  pub free : Acyclic (leads x) n

-- The dependencies of a lane, and e.
abbrev pub with : Dependencies → (ℕ → ℕ → Bool) → ℕ → ℕ → Bool
with x e b c = leads x b c || e b c

-- The dependencies e close a cycle in a lane.
pub record Refuses (n : ℕ) (e : ℕ → ℕ → Bool) (x : Dependencies) : Type 0 where
  pub closes : Acyclic (with x e) n → ⊥

-- They were added to a lane, and no cycle closed.
pub record Takes (n : ℕ) (e : ℕ → ℕ → Bool) (was is : Dependencies) : Type 0 where
  pub adds : Adds e was is
  pub sound : Sound n is

-- A lane that refuses them is as it was.
pub record Spares (n : ℕ) (e : ℕ → ℕ → Bool) (was is : Dependencies) : Type 0 where
  pub same : is ≡ was
  pub refuses : Refuses n e was

-- Whether the dependency from c to c' was added: not where a way back from c' to c would close.
abbrev pub Admits : ℕ → ℕ → Dependencies → Dependencies → Bool → Type 0
Admits c c' was is true = Takes was.channels (only c c') was is
Admits c c' was is false = Reach (leads was) was.channels c' c

-- Whether the dependencies e were added: not where a cycle would close, and then some of them may stand.
abbrev pub Tried : ℕ → (ℕ → ℕ → Bool) → Dependencies → Dependencies → Bool → Type 0
Tried n e was is true = Takes n e was is
Tried n e was is false = Refuses n e was

-- Whether they were, and else the lane is as it was.
pub record Filed (n : ℕ) (e : ℕ → ℕ → Bool) (was is : Dependencies) (filed : Bool) : Type 0 where
  pub takes : filed ≡ true → Takes n e was is
  pub spares : filed ≡ false → Spares n e was is

-- They were added to lane l, the lowest where no cycle closes, and no other lane changed.
pub record PlacedIn (n : ℕ) (e : ℕ → ℕ → Bool) (was is : List Dependencies) (l : ℕ) : Type 0 where
  pub below : l < length was
  pub lower : AllWithin (Refuses n e) was 0 l
  pub lane : Dependencies
  pub set : is ≡ slice_set was l lane
  pub adds : (d : Dependencies) → Adds e (slice_index_or was l d) lane
  pub sound : Sound n lane

-- In which lane they were placed; none where a cycle closes in every lane.
abbrev pub Placed : ℕ → (ℕ → ℕ → Bool) → List Dependencies → List Dependencies → Option ℕ → Type 0
Placed n e was is (Some l) = PlacedIn n e was is l
Placed n e was is None = All (Refuses n e) was
