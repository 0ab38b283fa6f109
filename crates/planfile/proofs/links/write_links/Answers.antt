use Rattle.std.proofs.Common.{◌≡◌, ℕ, ◌-◌, ◌<◌, List, [], ◌∷◌, ◌++◌, length, set, ap, ◌∙◌, arith}
use borrow.Rule.Slice.PartMut.{put_mid}
use Rattle.std.proofs.lemmas.List.{drop_all, append-nil}
use Rattle.planfile.proofs.links.write_links.Goals as goal

-- a byte, and the rest after it
filled : (old w : List ℕ) (n : ℕ) → 0 < length old → put_mid 1 (length (set old 0 n) - 1) (set old 0 n) w ≡ n ∷ w
filled [] w n h = absurd (omega arith)
filled (x ∷ xs) w n h =
    ap (λ (z : List ℕ). n ∷ (w ++ z)) (drop_all (length (x ∷ xs) - 1) xs (omega arith)) ∙ ap (λ (z : List ℕ). n ∷ z) (append-nil w)

pub returns : goal.returns
returns c = filled c.args.body.now c.write_ends.new.out c.switch_count.result (omega arith) ∙ cc
