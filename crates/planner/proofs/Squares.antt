-- A square of n rows of n cells is one list of n × n cells: cell i stands in row i / n and column i % n.
use Rattle.std.proofs.Common.{◌≡◌, ℕ, zero, suc, ◌+◌, ◌*◌, ◌/◌, ◌%◌, ◌<◌, ◌≤◌, Bool, true, false, cond, eqb, List, [], ◌∷◌, ◌++◌, map, length, get_or, if◌then◌else◌, ◌&&◌, not, ltb, sym, refl, ap, ◌∙◌, inl, inr, arith, append_assoc, suc-mul, zero-mul}
use Rattle.std.specs.List.{range_with_len}
use Rattle.std.proofs.lemmas.Nat.{div-add-mod', div-mul-add, mod-mul-add}
use Rattle.std.proofs.lemmas.List.{same_lists, get_or-map, length-map, length_push}
use Rattle.std.proofs.lemmas.List.FromFn.{get_or-range_with_len, get_or-map-range_with_len, length-map-range_with_len, map-range_with_len_more}
use Rattle.std.proofs.lemmas.Bool.{cases_eq, eq-eqb, ne_eqb, and_right, cond-true, cond-false}
use Rattle.std.proofs.Math.Nat.{mod-lt}
use Rattle.model.specs.Lists.{up_from, below, keep, joined}
use Rattle.model.specs.Net.{is_pair}
use Rattle.model.specs.Planner.{square}
use Rattle.model.proofs.Members.{length-up_from}
use Rattle.model.proofs.Squares.{get_d_rows, length-square}
use Rattle.fabric.specs.declared.pair.Pair.{Pair}
use Rattle.fabric.proofs.Pairing.{source_below, cell_pair}
use Rattle.planner.specs.Rows.{Gives}

-- The numbers from i on, as the library has them.
pub up_from_range : (k i : ℕ) → up_from k i ≡ range_with_len i k
up_from_range zero i = refl
up_from_range (suc k) i = let j : suc i ≡ i + 1 = omega arith in ap (λ z. i ∷ z) (up_from_range k (suc i) ∙ ap (λ (j : ℕ). range_with_len j k) j)

-- One number less is left, or none.
pub up_from_more : (m k i : ℕ) → m ≡ suc k → up_from m i ≡ i ∷ up_from k (i + 1)
up_from_more zero k i q = absurd (omega arith)
up_from_more (suc m) k i q =
    let z : m ≡ k = omega arith in
    let j : suc i ≡ i + 1 = omega arith in
    ap (λ (j : ℕ). i ∷ up_from j (suc i)) z ∙ ap (λ (j : ℕ). i ∷ up_from k j) j

pub up_from_none : (m i : ℕ) → m ≡ 0 → up_from m i ≡ []
up_from_none zero i q = refl
up_from_none (suc m) i q = absurd (omega arith)

map_joined : {A B : Type 0} (g : A → B) (xs : List A) → map g xs ≡ joined (λ x. g x ∷ []) xs
map_joined g [] = refl
map_joined g (x ∷ xs) = ap (λ z. g x ∷ z) (map_joined g xs)

kept_joined : {A B : Type 0} (g : A → B) (t : A → Bool) (xs : List A) → map g (keep t xs) ≡ joined (λ x. cond (t x) (g x ∷ []) []) xs
kept_joined g t [] = refl
kept_joined {A} {B} g t (x ∷ xs) = go (kept_joined g t xs) (t x)
  where
    go : map g (keep t xs) ≡ joined (λ x. cond (t x) (g x ∷ []) []) xs
        → (b : Bool) → map g (cond b (x ∷ keep t xs) (keep t xs)) ≡ cond b (g x ∷ []) [] ++ joined (λ x. cond (t x) (g x ∷ []) []) xs
    go ih true = ap (λ z. g x ∷ z) ih
    go ih false = ih

-- Rows of cells joined are all cells joined, whatever list a cell gives.
module _ {A : Type 0} (f : ℕ → ℕ → List A) (n : ℕ) where
  abbrev cell : ℕ → List A
  cell i = f (i / n) (i % n)

  -- The rest of row s, from column d on, and what follows.
  row : (s k d t i m : ℕ) → d + k ≡ n → i ≡ s * n + d → m ≡ k + t
      → joined cell (up_from m i) ≡ joined (f s) (up_from k d) ++ joined cell (up_from t (i + k))
  row s zero d t i m q e r =
      let z : m ≡ t = omega arith in
      let j : i ≡ i + 0 = omega arith in
      ap (λ (m : ℕ). joined cell (up_from m i)) z ∙ ap (λ (i : ℕ). joined cell (up_from t i)) j
  row s (suc k) d t i m q e r =
      let here : cell i ≡ f s d =
      ap cell e ∙ ap (λ (x : ℕ). f x ((s * n + d) % n)) (div-mul-add s n d (omega arith)) ∙ ap (λ (x : ℕ). f s x) (mod-mul-add s n d (omega arith)) in
      let j : i + 1 + k ≡ i + suc k = omega arith in
      let d' : d + 1 ≡ suc d = omega arith in
      ap (joined cell) (up_from_more m (k + t) i (omega arith))
      ∙ ap (λ z. z ++ joined cell (up_from (k + t) (i + 1))) here
      ∙ ap (λ z. f s d ++ z) (row s k (d + 1) t (i + 1) (k + t) (omega arith) (omega arith) refl)
      ∙ ap (λ (x : ℕ). f s d ++ (joined (f s) (up_from k (d + 1)) ++ joined cell (up_from t x))) j
      ∙ ap (λ (x : ℕ). f s d ++ (joined (f s) (up_from k x) ++ joined cell (up_from t (i + suc k)))) d'
      ∙ sym (append_assoc (f s d) (joined (f s) (up_from k (suc d))) (joined cell (up_from t (i + suc k))))

  rows : (m s t i : ℕ) → t ≡ m * n → i ≡ s * n → joined cell (up_from t i) ≡ joined (λ s. joined (f s) (below n)) (up_from m s)
  rows zero s t i p q = ap (joined cell) (up_from_none t i (p ∙ zero-mul n))
  rows (suc m) s t i p q =
      let e = suc-mul m n in
      let g = suc-mul s n in
      row s n 0 (m * n) i t (omega arith) (omega arith) (omega arith)
      ∙ ap (λ z. joined (f s) (below n) ++ z) (rows m (suc s) (m * n) (i + n) refl (omega arith))

  grid : joined (λ s. joined (f s) (below n)) (below n) ≡ joined cell (below (n * n))
  grid = sym (rows n 0 (n * n) 0 refl (sym (zero-mul n)))

module _ (n : ℕ) (f : ℕ → ℕ → ℕ) where
  abbrev byte : ℕ → ℕ → ℕ
  byte u d = elim (eqb u d) [ true ↦ 255 | false ↦ f u d ]

  -- The byte of cell i: 255 on the diagonal.
  abbrev pub at : ℕ → ℕ
  at i = byte (i / n) (i % n)

  row_wide : (u : ℕ) → length (map (byte u) (below n)) ≡ n
  row_wide u = length-map (below n) (byte u) ∙ length-up_from n 0

  square_cell : (k d : ℕ) → 1 ≤ n → k < n * n → get_or (square n f) k d ≡ at k
  square_cell k d h l =
      let u = k / n in
      let v = k % n in
      let hv : v < n = mod-lt k {m = n} h in
      let column : get_or (below n) v 0 ≡ v = ap (λ xs. get_or xs v 0) (up_from_range n 0) ∙ get_or-range_with_len 0 n v 0 hv ∙ omega arith in
      let r : 0 + u ≡ u = omega arith in
      ap (λ (j : ℕ). get_or (square n f) j d) (sym (div-add-mod' k n))
      ∙ get_d_rows n (λ u. map (byte u) (below n)) row_wide n 0 u v d (source_below n k h l) hv
      ∙ ap (λ (z : ℕ). get_or (map (byte z) (below n)) v d) r
      ∙ get_or-map (byte u) (below n) v 0 d (omega (arith, length-up_from n 0))
      ∙ ap (byte u) column

  -- Cell by cell that is the whole square.
  square_is : 1 ≤ n → map at (range_with_len 0 (n * n)) ≡ square n f
  square_is h =
      let long : length (map at (range_with_len 0 (n * n))) ≡ n * n = length-map-range_with_len at 0 (n * n) in
      same_lists (map at (range_with_len 0 (n * n))) (square n f) (long ∙ sym (length-square n f))
      (λ k d l.
      get_or-map-range_with_len at 0 (n * n) k k d (omega (arith, long)) (omega arith) ∙ sym (square_cell k d h (omega (arith, long))))

  -- The byte of a cell is that of its switches, if they are a pair, and else 255.
  pair_byte : (i : ℕ) → 1 ≤ n → i < n * n → (if is_pair n (i / n) (i % n) then f (i / n) (i % n) else 255) ≡ at i
  pair_byte i h l =
      elim (cases_eq (i / n) (i % n)) [
        | inl e ↦
            let same = eq-eqb (i / n) (i % n) e in
            let none : is_pair n (i / n) (i % n) ≡ false = and_right (ltb (i / n) n && ltb (i % n) n) (not (eqb (i / n) (i % n))) (ap not same) in
            cond-false (is_pair n (i / n) (i % n)) (f (i / n) (i % n)) 255 none ∙ sym (ap (λ (b : Bool). elim b as (λ _. ℕ) [ true ↦ 255 | false ↦ f (i / n) (i % n) ]) same)
        | inr ne ↦
            cond-true (is_pair n (i / n) (i % n)) (f (i / n) (i % n)) 255 (cell_pair n i h l ne)
            ∙ sym (ap (λ (b : Bool). elim b as (λ _. ℕ) [ true ↦ 255 | false ↦ f (i / n) (i % n) ]) (ne_eqb (i / n) (i % n) ne))
      ]

-- A list has the bytes of the cells below i, whatever the answers for pairs are.
pub record Filled (n : ℕ) (post : Pair → ℕ → Type 0) (i : ℕ) (xs : List ℕ) : Type 0 where
  pub so_far : (f : ℕ → ℕ → ℕ) → Gives n post f → xs ≡ map (at n f) (range_with_len 0 i)
  pub long : length xs ≡ i

pub filled_more : (n r i v : ℕ) (post : Pair → ℕ → Type 0) (xs ys : List ℕ) → Filled n post i xs → ys ≡ xs ++ v ∷ []
    → ((f : ℕ → ℕ → ℕ) → Gives n post f → v ≡ (if is_pair n (i / r) (i % r) then f (i / r) (i % r) else 255))
    → r ≡ n → 1 ≤ r → i < r * r → Filled n post (i + 1) ys
filled_more n r i v post xs ys F e p q h l =
    let inside : i < n * n = omega (arith, ap (λ (k : ℕ). k * k) q) in
    record {
      so_far = λ f G.
          let here : v ≡ (if is_pair n (i / n) (i % n) then f (i / n) (i % n) else 255) =
          p f G ∙ ap (λ (k : ℕ). if is_pair n (i / k) (i % k) then f (i / k) (i % k) else 255) q in
          e
          ∙ ap (λ zs. zs ++ v ∷ []) (F.so_far f G)
          ∙ ap (λ (z : ℕ). map (at n f) (range_with_len 0 i) ++ z ∷ []) (here ∙ pair_byte n f i (omega arith) inside)
          ∙ sym (map-range_with_len_more (at n f) 0 i i (omega arith));
      long = ap length e ∙ length_push xs v ∙ ap (λ (k : ℕ). k + 1) F.long;
    }

pub filled_all : (n r i : ℕ) (post : Pair → ℕ → Type 0) (f : ℕ → ℕ → ℕ) (xs : List ℕ) → Filled n post i xs → Gives n post f → r ≡ n → 1 ≤ r → i ≤ r * r → r * r ≤ i
    → xs ≡ square n f
filled_all n r i post f xs F G q h a b =
    let e : i ≡ n * n = omega (arith, ap (λ (k : ℕ). k * k) q) in
    F.so_far f G ∙ ap (λ (k : ℕ). map (at n f) (range_with_len 0 k)) e ∙ square_is n f (omega arith)
