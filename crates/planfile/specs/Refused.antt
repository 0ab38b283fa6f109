-- Which lists of bytes are plan files, and how the others are refused.
use Rattle.std.specs.Prelude.{◌≡◌, ℕ, zero, suc, ◌+◌, ◌-◌, ◌*◌, ◌%◌, ◌<◌, ◌≤◌, List, [], ◌∷◌, take, drop, Some, None, codes, ◌≢◌, slice_index}
use Rattle.model.specs.Cabling.{cabling_refusal}
use Rattle.model.specs.Refusals.{Refusal, refuse, file_layer}
use Rattle.planfile.specs.Contents.{entry_at, tag_from, offset_from, length_from, Formed}

-- The refusals of a file: its form; a wrong tag, and a wrong offset or length, of an entry; a diagonal that is not 255, at a byte of a body.
abbrev pub ill_formed : Refusal
ill_formed = refuse file_layer 15 []

abbrev pub wrong_tag : ℕ → Refusal
wrong_tag entry = refuse file_layer 16 (entry ∷ [])

abbrev pub misplaced : ℕ → Refusal
misplaced entry = refuse file_layer 17 (entry ∷ [])

abbrev pub marred : ℕ → ℕ → Refusal
marred body byte = refuse file_layer 18 (body ∷ byte ∷ [])

-- The tag of each entry.
abbrev pub tag_of : ℕ → List ℕ
tag_of zero = codes "LINK"
tag_of (suc zero) = codes "HOPS"
tag_of (suc (suc e)) = codes "LANE"

-- What entry e of a file says.
abbrev pub tag_at : List ℕ → ℕ → List ℕ
tag_at bs e = tag_from bs (entry_at e)

abbrev pub offset_at : List ℕ → ℕ → ℕ
offset_at bs e = offset_from bs (entry_at e)

abbrev pub length_at : List ℕ → ℕ → ℕ
length_at bs e = length_from bs (entry_at e)

-- The first k entries have their tags.
abbrev pub Tagged : List ℕ → ℕ → Type 0
Tagged bs k = (e : ℕ) → e < k → tag_at bs e ≡ tag_of e

-- The contents are sound, but for offsets and lengths.
pub record Opened (bs : List ℕ) : Type 0 where
  pub formed : Formed bs
  pub tagged : Tagged bs 3

-- LINK begins at 25, and holds a switch count and 1 to 64 links of two ends each.
pub record LinkPlaced (bs : List ℕ) : Type 0 where
  pub from : offset_at bs 0 ≡ 25
  pub least : 3 ≤ length_at bs 0
  pub most : length_at bs 0 ≤ 129
  pub odd : length_at bs 0 % 2 ≡ 1

abbrev pub switches_in : List ℕ → ℕ
switches_in bs = slice_index bs 25

abbrev pub ends_in : List ℕ → List ℕ
ends_in bs = take (length_at bs 0 - 1) (drop 26 bs)

-- LINK is right: it is placed, and nothing refuses its cabling.
pub record Cabled (bs : List ℕ) : Type 0 where
  pub opened : Opened bs
  pub placed : LinkPlaced bs
  pub sound : cabling_refusal (switches_in bs) (ends_in bs) ≡ None

-- Where HOPS and LANE begin.
abbrev pub hops_from : List ℕ → ℕ
hops_from bs = 25 + length_at bs 0

abbrev pub lane_from : List ℕ → ℕ
lane_from bs = 25 + length_at bs 0 + length_at bs 1

-- HOPS follows LINK, and LANE follows HOPS, each as long as the switch count says.
pub record HopsPlaced (bs : List ℕ) : Type 0 where
  pub from : offset_at bs 1 ≡ hops_from bs
  pub size : length_at bs 1 ≡ switches_in bs * switches_in bs

pub record LanePlaced (bs : List ℕ) : Type 0 where
  pub from : offset_at bs 2 ≡ lane_from bs
  pub size : length_at bs 2 ≡ 1 + switches_in bs * switches_in bs

pub record Placed (bs : List ℕ) : Type 0 where
  pub cabled : Cabled bs
  pub hops : HopsPlaced bs
  pub lane : LanePlaced bs

-- What HOPS and LANE hold.
abbrev pub hops_in : List ℕ → List ℕ
hops_in bs = take (switches_in bs * switches_in bs) (drop (hops_from bs) bs)

abbrev pub lane_count_in : List ℕ → ℕ
lane_count_in bs = slice_index bs (lane_from bs)

abbrev pub lanes_in : List ℕ → List ℕ
lanes_in bs = take (switches_in bs * switches_in bs) (drop (lane_from bs + 1) bs)

-- In a list of n × n bytes by row, the first k bytes of the diagonal are 255.
abbrev pub Plain : ℕ → List ℕ → ℕ → Type 0
Plain n xs k = (i : ℕ) → i < k → slice_index xs (i * n + i) ≡ 255

-- Byte i of the diagonal is the first that is not.
pub record Marred (n : ℕ) (xs : List ℕ) (i : ℕ) : Type 0 where
  pub there : i < n
  pub before : Plain n xs i
  pub here : slice_index xs (i * n + i) ≢ 255

-- The bytes are a plan file.
pub record PlanFile (bs : List ℕ) : Type 0 where
  pub placed : Placed bs
  pub hops : Plain (switches_in bs) (hops_in bs) (switches_in bs)
  pub lanes : Plain (switches_in bs) (lanes_in bs) (switches_in bs)

-- They are refused so: each way says that every earlier test is passed. Bytes of a body are counted from 0, the lane count is byte 0
-- of LANE.
pub data Refused (bs : List ℕ) : Refusal → Type 0 where
  form : (Formed bs → ⊥) → Refused bs ill_formed
  tag : (e : ℕ) → Formed bs → e < 3 → Tagged bs e → (tag_at bs e ≢ tag_of e) → Refused bs (wrong_tag e)
  link : Opened bs → (LinkPlaced bs → ⊥) → Refused bs (misplaced 0)
  cabling : (r : Refusal) → Opened bs → LinkPlaced bs → cabling_refusal (switches_in bs) (ends_in bs) ≡ Some r → Refused bs r
  hops : Cabled bs → (HopsPlaced bs → ⊥) → Refused bs (misplaced 1)
  lane : Cabled bs → HopsPlaced bs → (LanePlaced bs → ⊥) → Refused bs (misplaced 2)
  hops_diagonal : (i : ℕ) → Placed bs → Marred (switches_in bs) (hops_in bs) i → Refused bs (marred 1 (i * switches_in bs + i))
  lane_diagonal : (i : ℕ) → Placed bs → Plain (switches_in bs) (hops_in bs) (switches_in bs) → Marred (switches_in bs) (lanes_in bs) i
      → Refused bs (marred 2 (1 + (i * switches_in bs + i)))
