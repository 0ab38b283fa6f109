-- The cells of a table.
use Rattle.std.proofs.Common.{◌≡◌, ℕ, ◌+◌, ◌*◌, ◌<◌, ◌≤◌, true, List, length, get_or, take, arith}
use Rattle.std.proofs.lemmas.Nat.{mul-add-lt}
use Rattle.std.proofs.lemmas.List.{get_or-take, get_or_default}
use Rattle.model.specs.Net.{is_pair}
use Rattle.model.specs.Rules.{table_rule}
use Rattle.model.proofs.Dependencies.{pair_parts}

-- the cell of a pair lies in a table
pub cell_below : (n s d : ℕ) → is_pair n s d ≡ true → s * n + d < n * n
cell_below n s d p = let q = pair_parts n s d p in mul-add-lt s n d n q.0 q.1

-- what stands there, whatever else a list too short would give
pub cell_read : (n s d : ℕ) (xs : List ℕ) → is_pair n s d ≡ true → n * n ≤ length xs → get_or xs (s * n + d) 0 ≡ get_or xs (s * n + d) 255
cell_read n s d xs p l = get_or_default xs (s * n + d) 0 255 (omega (arith, cell_below n s d p))

-- the cell of a pair lies in the front of a list
pub cell_front : (n s d x : ℕ) (xs ys : List ℕ) → xs ≡ take (n * n) ys → is_pair n s d ≡ true → get_or xs (s * n + d) x ≡ get_or ys (s * n + d) x
cell_front n s d x xs ys e p = rw e (get_or-take (n * n) ys (s * n + d) x (cell_below n s d p))

-- so what follows the table's cells says nothing
pub table_front : (m n : ℕ) (xs ys hops lanes : List ℕ) → m ≡ n → xs ≡ take (n * n) hops → ys ≡ take (n * n) lanes
    → table_rule m xs ys ≡ table_rule n hops lanes
table_front m n xs ys hops lanes e p q = grind (arith, cell_front)
