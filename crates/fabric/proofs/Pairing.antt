-- The pairs that are left from a place of a table on.
use Rattle.std.proofs.Common.{◌≡◌, ℕ, suc, ◌+◌, ◌*◌, ◌/◌, ◌%◌, ◌<◌, ◌≤◌, true, List, ◌∷◌, ◌++◌, ◌≢◌, refl, sym, ap, ◌∙◌, arith}
use Rattle.std.proofs.Math.Nat.{div-lt_iff_lt-mul, mod-lt}
use Rattle.std.proofs.lemmas.Bool.{cond-true, cond-false, eq-eqb, ne_eqb, lt-ltb}
use Rattle.model.specs.Net.{is_pair}
use Rattle.model.specs.Routes.{Pair}
use Rattle.model.specs.Routes.{pairs_of}
use Rattle.model.specs.Pairs.{pairs_left}
use Rattle.model.proofs.Dependencies.{pair_parts}
use Rattle.model.proofs.PairsLeft.{left_none, left_at, pairs_left_lem}
use Rattle.fabric.specs.Of.{net}
use Rattle.fabric.specs.declared.network.Fabric.{Fabric}

-- two different switches are a pair
pub pair_is : (n s d : ℕ) → s < n → d < n → (s ≢ d) → is_pair n s d ≡ true
pair_is n s d a b ne = simp (lt-ltb s n a, lt-ltb d n b, ne_eqb s d ne)

-- the switches of a cell
pub source_below : (n k : ℕ) → 1 ≤ n → k < n * n → k / n < n
source_below n k h l = (div-lt_iff_lt-mul {k = n} {x = k} {y = n} h).1 l

-- a cell off the diagonal is a pair
pub cell_pair : (n k : ℕ) → 1 ≤ n → k < n * n → (k / n ≢ k % n) → is_pair n (k / n) (k % n) ≡ true
cell_pair n k h l ne = pair_is n (k / n) (k % n) (source_below n k h l) (mod-lt k {m = n} h) ne

-- a pair comes first at its place, and then what is left from the next place on
pub pair_more : (n s d : ℕ) → is_pair n s d ≡ true → pairs_left n (s * n + d) ≡ record { source = s; destination = d } ∷ pairs_left n (s * n + (d + 1))
pair_more n s d p =
    let q = pair_parts n s d p in
    left_at n s d q.0 q.1
    ∙ (ap (λ (ps : List Pair). ps ++ pairs_left n (suc (s * n + d))) (cond-false _ _ _ (ne_eqb s d q.2))
    ∙ ap (λ (j : ℕ). record { source = s; destination = d } ∷ pairs_left n j) (omega arith))

-- the diagonal has none
pub pair_skip : (n s : ℕ) → s < n → pairs_left n (s * n + s) ≡ pairs_left n (s * n + (s + 1))
pair_skip n s l =
    left_at n s s l l
    ∙ (ap (λ (ps : List Pair). ps ++ pairs_left n (suc (s * n + s))) (cond-true _ _ _ (eq-eqb s s refl))
    ∙ ap (λ (j : ℕ). pairs_left n j) (omega arith))

-- after the last pair of a row comes the first place of the next
pub row_last : (n s d e : ℕ) → e ≡ n → pairs_left n (s * n + d) ≡ record { source = s; destination = d } ∷ pairs_left n (s * n + e)
    → pairs_left n (s * n + d) ≡ record { source = s; destination = d } ∷ pairs_left n ((s + 1) * n + 0)
row_last n s d e q w =
    let r : s * n + e ≡ (s + 1) * n + 0 = ap (λ (z : ℕ). s * n + z) q ∙ omega arith in
    w ∙ ap (λ (j : ℕ). record { source = s; destination = d } ∷ pairs_left n j) r

-- all pairs are left from the second place on, since the first is on the diagonal
pub all_left : (f : Fabric) (n : ℕ) → n ≡ (net f).switches → pairs_left n (0 * n + 1) ≡ pairs_of (net f).switches
all_left f n e =
    sym (pair_skip n 0 (let t = f.sizes.0 in omega (arith, t, e))) ∙ (ap (λ (z : ℕ). pairs_left n z) (omega arith) ∙ pairs_left_lem n) ∙ ap (λ (m : ℕ). pairs_of m) e

pub ruleset pairs_more = (pair_is, pair_more, pair_skip, row_last, left_none)
