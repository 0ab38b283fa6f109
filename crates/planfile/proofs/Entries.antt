-- An entry that is read from a part of a file stands there in the file.
use Rattle.std.proofs.Common.{◌≡◌, ℕ, ◌+◌, ◌<◌, List, get_or, take, drop, ap, ◌∙◌, arith}
use Rattle.std.proofs.lemmas.List.{get_or-take, get_or-drop, take-take}
use Rattle.planfile.specs.Contents.{EntryFrom}
use Rattle.planfile.specs.declared.entry.Entry.{Entry}

pub entry_part : (bs : List ℕ) (at : ℕ) (e : Entry) → EntryFrom (take 8 (drop at bs)) 0 e → EntryFrom bs at e
entry_part bs at e h =
    record {
      tag = h.tag ∙ take-take 4 8 (drop at bs) (omega arith);
      offset = omega (arith, h.offset, byte 4 (at + 4) (omega arith) (omega arith), byte 5 (at + 4 + 1) (omega arith) (omega arith));
      long = omega (arith, h.long, byte 6 (at + 6) (omega arith) (omega arith), byte 7 (at + 6 + 1) (omega arith) (omega arith));
    }
  where
    byte : (k j : ℕ) → k < 8 → at + k ≡ j → get_or (take 8 (drop at bs)) k 0 ≡ get_or bs j 0
    byte k j h q = get_or-take 8 (drop at bs) k 0 h ∙ get_or-drop at bs k 0 ∙ ap (λ (i : ℕ). get_or bs i 0) q
