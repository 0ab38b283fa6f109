-- Reading a square table back: the byte of row u and column d, and what the table's rule makes of it.
use Rattle.std.proofs.Common.{◌≡◌, ℕ, zero, suc, ◌+◌, ◌*◌, ◌<◌, Bool, true, false, cond, eqb, List, ◌++◌, map, length, get_or, Some, None, Option, refl, ap, ◌∙◌, suc-mul, arith}
use Rattle.std.proofs.lemmas.List.{get_or_append_left, get_or-append-add, get_or-map, length-append, length-map}
use Rattle.std.proofs.lemmas.Bool.{cond-true, lt-ltb, ne_eqb}
use Rattle.model.specs.Lists.{up_from, below, joined}
use Rattle.model.specs.Net.{is_pair}
use Rattle.model.specs.Rules.{channel_byte, table_rule}
use Rattle.model.specs.Planner.{byte_of, square}
use Rattle.model.proofs.Members.{length-up_from}
use Rattle.model.proofs.Dependencies.{pair_parts}

get_or-up_from : (k i d : ℕ) → d < k → get_or (up_from k i) d 0 ≡ i + d
get_or-up_from zero i d l = absurd (omega arith)
get_or-up_from (suc k) i zero l = omega arith
get_or-up_from (suc k) i (suc d) l = get_or-up_from k (suc i) d (omega arith) ∙ omega arith

-- Rows of n elements each, one after the other.
module _ {A : Type 0} (n : ℕ) (row : ℕ → List A) (wide : (u : ℕ) → length (row u) ≡ n) where
  pub length_rows : (k i : ℕ) → length (joined row (up_from k i)) ≡ k * n
  length_rows zero i = omega arith
  length_rows (suc k) i =
      length-append (row i) (joined row (up_from k (suc i))) ∙ omega (arith, wide i, length_rows k (suc i), suc-mul k n)

  pub get_d_rows : (k i u d : ℕ) (x : A) → u < k → d < n → get_or (joined row (up_from k i)) (u * n + d) x ≡ get_or (row (i + u)) d x
  get_d_rows zero i u d x lu ld = absurd (omega arith)
  get_d_rows (suc k) i zero d x lu ld =
      let q : 0 * n + d ≡ d = omega arith in
      let r : i ≡ i + 0 = omega arith in
      ap (λ (z : ℕ). get_or (row i ++ joined row (up_from k (suc i))) z x) q
      ∙ (get_or_append_left (row i) (joined row (up_from k (suc i))) x d (omega (arith, wide i)) ∙ ap (λ (z : ℕ). get_or (row z) d x) r)
  get_d_rows (suc k) i (suc u) d x lu ld =
      let q : suc u * n + d ≡ length (row i) + (u * n + d) = omega (arith, wide i, suc-mul u n) in
      let r : suc i + u ≡ i + suc u = omega arith in
      ap (λ (z : ℕ). get_or (row i ++ joined row (up_from k (suc i))) z x) q
      ∙ (get_or-append-add (row i) (joined row (up_from k (suc i))) (u * n + d) x
      ∙ (get_d_rows k (suc i) u d x (omega arith) ld ∙ ap (λ (z : ℕ). get_or (row z) d x) r))

module _ (n : ℕ) (f : ℕ → ℕ → ℕ) where
  abbrev cell : ℕ → ℕ → ℕ
  cell u d = elim (eqb u d) [ true ↦ 255 | false ↦ f u d ]

  row_wide : (u : ℕ) → length (map (cell u) (below n)) ≡ n
  row_wide u = length-map (below n) (cell u) ∙ length-up_from n 0

  pub length-square : length (square n f) ≡ n * n
  length-square = length_rows n (λ u. map (cell u) (below n)) row_wide n 0

  -- Off the diagonal the table holds what f says.
  pub get_or-square : (u d : ℕ) → is_pair n u d ≡ true → get_or (square n f) (u * n + d) 255 ≡ f u d
  get_or-square u d h =
      let p = pair_parts n u d h in
      let q : get_or (below n) d 0 ≡ d = get_or-up_from n 0 d p.1 ∙ omega arith in
      let r : 0 + u ≡ u = omega arith in
      get_d_rows n (λ u. map (cell u) (below n)) row_wide n 0 u d 255 p.0 p.1
      ∙ (ap (λ (z : ℕ). get_or (map (cell z) (below n)) d 255) r
      ∙ (get_or-map (cell u) (below n) d 0 255 (omega (arith, p.1, length-up_from n 0))
      ∙ (ap (cell u) q
      ∙ ap (λ (b : Bool). elim b as (λ _. ℕ) [ true ↦ 255 | false ↦ f u d ]) (ne_eqb u d p.2))))

  pub square_next : (lanes : List ℕ) (u d : ℕ) → is_pair n u d ≡ true → (table_rule n (square n f) lanes).next u d ≡ channel_byte (f u d)
  square_next lanes u d h =
      cond-true (is_pair n u d) (channel_byte (get_or (square n f) (u * n + d) 255)) None h ∙ ap channel_byte (get_or-square u d h)

-- A byte below 255 names its channel, and 255 none.
pub byte_channel : (m : Option ℕ) → ((c : ℕ) → m ≡ Some c → c < 255) → channel_byte (byte_of m) ≡ m
byte_channel None h = refl
byte_channel (Some c) h = ap (λ (b : Bool). cond b (Some c) None) (lt-ltb c 255 (h c refl))
