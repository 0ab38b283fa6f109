-- The contents of a plan file: byte 0 is 3, and three entries of eight bytes follow.
use Rattle.std.specs.Prelude.{◌≡◌, ℕ, ◌+◌, ◌*◌, ◌≤◌, List, [], length, take, drop, Some, None, Ok, Err, Option, Result, slice_index, ◌≢◌}
use Rattle.model.specs.Refusals.{refuse, file_layer}
use Rattle.planfile.specs.Faults.{file_refusal}
use Rattle.planfile.specs.declared.contents.Contents.{Contents}
use Rattle.planfile.specs.declared.entry.Entry.{Entry}
use Rattle.planfile.specs.declared.fault.FileFault.{FileFault}

-- Two bytes as a number, high byte first.
abbrev pub wide : List ℕ → ℕ → ℕ
wide bs k = 256 * slice_index bs k + slice_index bs (k + 1)

-- What the eight bytes from a place on hold: a tag of four bytes, an offset and a length.
abbrev pub tag_from : List ℕ → ℕ → List ℕ
tag_from bs at = take 4 (drop at bs)

abbrev pub offset_from : List ℕ → ℕ → ℕ
offset_from bs at = wide bs (at + 4)

abbrev pub length_from : List ℕ → ℕ → ℕ
length_from bs at = wide bs (at + 6)

-- An entry is what stands there.
pub record EntryFrom (bs : List ℕ) (at : ℕ) (e : Entry) : Type 0 where
  pub tag : e.tag ≡ tag_from bs at
  pub offset : e.offset ≡ offset_from bs at
  pub long : e.length ≡ length_from bs at

-- What is taken from a list of bytes: an entry of exactly eight.
abbrev pub Taken : List ℕ → Option Entry → Type 0
Taken bs (Some e) = (length bs ≡ 8) × EntryFrom bs 0 e
Taken bs None = length bs ≢ 8

-- Entry e of a file, 0 to 2, begins here.
abbrev pub entry_at : ℕ → ℕ
entry_at e = 1 + 8 * e

-- A file is well formed: 25 to 4,096 bytes, byte 0 is 3, and it is as long as its three lengths say.
pub record Formed (bs : List ℕ) : Type 0 where
  pub long : 25 ≤ length bs
  pub short : length bs ≤ 4096
  pub edition : slice_index bs 0 ≡ 3
  pub whole : length bs ≡ 25 + length_from bs (entry_at 0) + length_from bs (entry_at 1) + length_from bs (entry_at 2)

-- The three entries of a file.
pub record Holds (bs : List ℕ) (c : Contents) : Type 0 where
  pub link : EntryFrom bs (entry_at 0) c.link
  pub hops : EntryFrom bs (entry_at 1) c.hops
  pub lane : EntryFrom bs (entry_at 2) c.lane

-- A well-formed file gives its contents, and any other refusal 15.
abbrev pub Opens : List ℕ → Result Contents FileFault → Type 0
Opens bs (Ok c) = Formed bs × Holds bs c
Opens bs (Err f) = (file_refusal f ≡ Some (refuse file_layer 15 [])) × (Formed bs → ⊥)
