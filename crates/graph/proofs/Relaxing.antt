use Rattle.std.proofs.Common.{◌≡◌, ℕ, suc, ◌<◌, false, cond, List, length, take, set, Some, None, Option, is_some, is_none, arith}
use Rattle.std.proofs.lemmas.List.{get_or-take, length-take}
use Rattle.std.proofs.lemmas.List.Sums.{sum_by-set}
use Rattle.std.proofs.Math.Seq.{take-set-lt}
use Rattle.graph.specs.Distances.{row_at}
use Rattle.graph.specs.Rounds.{unreached}

-- a node reached is one less that is not
pub unreached-set : (xs : List (Option ℕ)) (i k n : ℕ) → i < n → i < length xs → is_some (row_at xs i) ≡ false → suc (unreached (set xs i (Some k)) n) ≡ unreached xs n
unreached-set xs i k n h l q =
    let s = sum_by-set (λ o. cond (is_none o) 1 0) (take n xs) i (Some k) None (omega (arith, length-take n xs)) in
    rw (take-set-lt n xs i (Some k) h) (omega (arith, rw (get_or-take n xs i None h, q) at s))
