-- The entries of a file, byte by byte.
use Rattle.std.proofs.Common.{◌≡◌, ℕ, ◌+◌, ◌/◌, ◌%◌, ◌<◌, ◌≤◌, List, [], ◌∷◌, ◌++◌, length, get_or, take, drop, sym, refl, ap, ◌∙◌, arith}
use Rattle.std.proofs.lemmas.List.FromFn.{fill_by_all}
use Rattle.std.proofs.lemmas.List.{get_or-take, get_or-drop, length-take-le, length-drop, take-append-drop, drop-drop}
use Rattle.std.proofs.Math.Seq.{take-add}
use Rattle.planfile.specs.Contents.{wide}
use Rattle.planfile.specs.File.{entry_bytes}

-- the bytes of a list, one by one
pub four : (s : List ℕ) → length s ≡ 4 → s ≡ get_or s 0 0 ∷ get_or s 1 0 ∷ get_or s 2 0 ∷ get_or s 3 0 ∷ []
four s h = fill_by_all (λ (k : ℕ). get_or s k 0) s 4 0 h (λ k l. refl)

eight : (s : List ℕ) → length s ≡ 8
    → s ≡ get_or s 0 0 ∷ get_or s 1 0 ∷ get_or s 2 0 ∷ get_or s 3 0 ∷ get_or s 4 0 ∷ get_or s 5 0 ∷ get_or s 6 0 ∷ get_or s 7 0 ∷ []
eight s h = fill_by_all (λ (k : ℕ). get_or s k 0) s 8 0 h (λ k l. refl)

-- the eight bytes of an entry are those of what it holds
entry_back : (bs : List ℕ) (at : ℕ) → at + 8 ≤ length bs → ((i : ℕ) → get_or bs i 0 < 256)
    → take 8 (drop at bs) ≡ entry_bytes (take 4 (drop at bs)) (wide bs (at + 4)) (wide bs (at + 6))
entry_back bs at h small =
    let d : List ℕ = drop (at + 4) bs in
    let s : List ℕ = take 4 d in
    let byte : (k j : ℕ) → k < 4 → at + 4 + k ≡ j → get_or s k 0 ≡ get_or bs j 0 = λ k j l e.
    get_or-take 4 d k 0 l ∙ get_or-drop (at + 4) bs k 0 ∙ ap (λ (i : ℕ). get_or bs i 0) e in
    let b0 : get_or s 0 0 ≡ wide bs (at + 4) / 256 = omega (arith, byte 0 (at + 4) (omega arith) (omega arith), small (at + 4 + 1)) in
    let b1 : get_or s 1 0 ≡ wide bs (at + 4) % 256 = omega (arith, byte 1 (at + 4 + 1) (omega arith) (omega arith), small (at + 4 + 1)) in
    let b2 : get_or s 2 0 ≡ wide bs (at + 6) / 256 = omega (arith, byte 2 (at + 6) (omega arith) (omega arith), small (at + 6 + 1)) in
    let b3 : get_or s 3 0 ≡ wide bs (at + 6) % 256 = omega (arith, byte 3 (at + 6 + 1) (omega arith) (omega arith), small (at + 6 + 1)) in
    let bytes = four s (length-take-le 4 d (omega (arith, length-drop (at + 4) bs))) in
    let parts = take-add 4 4 (drop at bs) in
    let rest = drop-drop 4 at bs in
    cc

-- an entry that holds these
pub entry_is : (bs : List ℕ) (at : ℕ) (tag : List ℕ) (from long : ℕ) → at + 8 ≤ length bs → ((i : ℕ) → get_or bs i 0 < 256)
    → take 4 (drop at bs) ≡ tag → wide bs (at + 4) ≡ from → wide bs (at + 6) ≡ long → take 8 (drop at bs) ≡ entry_bytes tag from long
entry_is bs at tag from long h small t f l = let e = entry_back bs at h small in cc

-- a list from a place on, cut after k
pub cut : (bs : List ℕ) (at k j : ℕ) → at + k ≡ j → drop at bs ≡ take k (drop at bs) ++ drop j bs
cut bs at k j e =
    sym (take-append-drop k (drop at bs))
    ∙ ap (λ (z : List ℕ). take k (drop at bs) ++ z) (drop-drop k at bs ∙ ap (λ (z : ℕ). drop z bs) e)

-- three entries, byte by byte
pub three : (w x y : List ℕ) → length w ≡ 8 → length x ≡ 8 → length y ≡ 8
    → 3 ∷ get_or w 0 0 ∷ get_or w 1 0 ∷ get_or w 2 0 ∷ get_or w 3 0 ∷ get_or w 4 0 ∷ get_or w 5 0 ∷ get_or w 6 0 ∷ get_or w 7 0
    ∷ get_or x 0 0 ∷ get_or x 1 0 ∷ get_or x 2 0 ∷ get_or x 3 0 ∷ get_or x 4 0 ∷ get_or x 5 0 ∷ get_or x 6 0 ∷ get_or x 7 0
    ∷ get_or y 0 0 ∷ get_or y 1 0 ∷ get_or y 2 0 ∷ get_or y 3 0 ∷ get_or y 4 0 ∷ get_or y 5 0 ∷ get_or y 6 0 ∷ get_or y 7 0 ∷ []
    ≡ 3 ∷ (w ++ (x ++ y))
three w x y a b c =
    let front : List ℕ = get_or w 0 0 ∷ get_or w 1 0 ∷ get_or w 2 0 ∷ get_or w 3 0 ∷ get_or w 4 0 ∷ get_or w 5 0 ∷ get_or w 6 0 ∷ get_or w 7 0 ∷ [] in
    let next : List ℕ = get_or x 0 0 ∷ get_or x 1 0 ∷ get_or x 2 0 ∷ get_or x 3 0 ∷ get_or x 4 0 ∷ get_or x 5 0 ∷ get_or x 6 0 ∷ get_or x 7 0 ∷ [] in
    sym (ap (λ (z : List ℕ). 3 ∷ (z ++ (x ++ y))) (eight w a) ∙ ap (λ (z : List ℕ). 3 ∷ (front ++ (z ++ y))) (eight x b)
    ∙ ap (λ (z : List ℕ). 3 ∷ (front ++ (next ++ z))) (eight y c))
