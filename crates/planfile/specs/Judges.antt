-- What taking a file apart answers.
use Rattle.std.specs.Prelude.{◌≡◌, ℕ, ◌+◌, ◌*◌, List, Some, None, Ok, Err, Option, Result, MatchOption}
use Rattle.planfile.specs.Contents.{Holds}
use Rattle.planfile.specs.Faults.{file_refusal}
use Rattle.planfile.specs.Refused.{Opened, Cabled, Placed, PlanFile, Refused, Plain, Marred, switches_in, ends_in, hops_in, lane_count_in, lanes_in}
use Rattle.planfile.specs.declared.bodies.Bodies.{Bodies}
use Rattle.planfile.specs.declared.links.Links.{Links}
use Rattle.planfile.specs.declared.bodies.Tables.{Tables}
use Rattle.planfile.specs.declared.contents.Contents.{Contents}
use Rattle.planfile.specs.declared.fault.FileFault.{FileFault}

-- A fault is a refusal, and the bytes are refused so.
abbrev pub Faulty : List ℕ → FileFault → Type 0
Faulty bs f = MatchOption (file_refusal f) ⊥ (Refused bs)

-- The contents, with their tags.
abbrev pub Tagged : List ℕ → Result Contents FileFault → Type 0
Tagged bs (Ok c) = Opened bs × Holds bs c
Tagged bs (Err f) = Faulty bs f

-- The switch count and the link ends.
pub record HoldsLinks (bs : List ℕ) (l : Links) : Type 0 where
  pub switches : l.switches ≡ switches_in bs
  pub ends : l.ends.now ≡ ends_in bs

abbrev pub LinksIn : List ℕ → Result Links FileFault → Type 0
LinksIn bs (Ok l) = Cabled bs × HoldsLinks bs l
LinksIn bs (Err f) = Faulty bs f

-- The two tables and the lane count.
pub record HoldsTables (bs : List ℕ) (t : Tables) : Type 0 where
  pub hops : t.hops.now ≡ hops_in bs
  pub count : t.lane_count ≡ lane_count_in bs
  pub lanes : t.lanes.now ≡ lanes_in bs

abbrev pub TablesIn : List ℕ → Result Tables FileFault → Type 0
TablesIn bs (Ok t) = Placed bs × HoldsTables bs t
TablesIn bs (Err f) = Faulty bs f

-- Where the first byte of a diagonal that is not 255 stands in its table.
abbrev pub Searches : ℕ → List ℕ → Option ℕ → Type 0
Searches n xs None = Plain n xs n
Searches n xs (Some byte) = (i : ℕ) × (byte ≡ i * n + i) × Marred n xs i

-- All of it, without memory: the bytes are taken apart exactly where nothing refuses them.
abbrev pub Judges : List ℕ → Result Bodies FileFault → Type 0
Judges bs (Ok b) = PlanFile bs × HoldsLinks bs b.links × HoldsTables bs b.tables
Judges bs (Err f) = Faulty bs f
