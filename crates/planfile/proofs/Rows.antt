-- Tables by row.
use Rattle.std.proofs.Common.{◌≡◌, ℕ, ◌+◌, ◌*◌, ◌/◌, ◌%◌, ◌<◌, Bool, true, cond, List, length, get_or, Some, None, unwrap_or, sym, ap, ◌∙◌, inl, inr, arith}
use Rattle.std.proofs.lemmas.Nat.{div-add-mod', div_below, mod_below, mul-add-lt, div-mul-add, mod-mul-add}
use Rattle.std.proofs.lemmas.List.FromFn.{fill_by_all, get_or-map-range_with_len, length-map-range_with_len}
use Rattle.std.proofs.lemmas.List.{get_or_default}
use Rattle.std.proofs.lemmas.Bool.{cases_eq, cases_lt, lt-ltb, le-ltb, eq-eqb, ne_eqb, cond-true, cond-false}
use Rattle.std.proofs.lemmas.Bool.Decides.{nat_tests}
use Rattle.model.specs.Net.{is_pair}
use Rattle.model.specs.Rules.{table_rule, channel_byte}
use Rattle.planfile.specs.File.{rows, cell, hop_byte}

pub length_rows : (n : ℕ) (f : ℕ → ℕ → ℕ) → length (rows n f) ≡ n * n
length_rows n f = length-map-range_with_len (λ (k : ℕ). cell f (k / n) (k % n)) 0 (n * n)

-- what stands at u and d
pub rows_at : (n : ℕ) (f : ℕ → ℕ → ℕ) (u d : ℕ) → u < n → d < n → get_or (rows n f) (u * n + d) 0 ≡ cell f u d
rows_at n f u d hu hd =
    get_or-map-range_with_len (λ (k : ℕ). cell f (k / n) (k % n)) 0 (n * n) (u * n + d) (u * n + d) 0 (mul-add-lt u n d n hu hd) (omega arith)
    ∙ ap (λ (z : ℕ). cell f z ((u * n + d) % n)) (div-mul-add u n d hd) ∙ ap (λ (z : ℕ). cell f u z) (mod-mul-add u n d hd)

-- a table whose diagonal is 255 is the rows of what it answers
pub rows_back : (n : ℕ) (xs : List ℕ) (f : ℕ → ℕ → ℕ) → 0 < n → length xs ≡ n * n
    → ((i : ℕ) → i < n → get_or xs (i * n + i) 0 ≡ 255)
    → ((u d : ℕ) → u < n → d < n → (u ≡ d → ⊥) → f u d ≡ get_or xs (u * n + d) 0) → xs ≡ rows n f
rows_back n xs f p l diag at =
    fill_by_all (λ (k : ℕ). cell f (k / n) (k % n)) xs (n * n) 0 l
    (λ k h.
    let hu : k / n < n = div_below k n n p h in
    let hd : k % n < n = mod_below k n p in
    let e : k / n * n + k % n ≡ k = div-add-mod' k n in
    let g : get_or xs (k / n * n + k % n) 0 ≡ get_or xs k 0 = ap (λ (z : ℕ). get_or xs z 0) e in
    elim (cases_eq (k / n) (k % n)) [
      | inl s ↦ sym g ∙ ap (λ (z : ℕ). get_or xs (k / n * n + z) 0) (sym s) ∙ diag (k / n) hu ∙ sym (cond-true _ _ _ (eq-eqb _ _ s))
      | inr s ↦ sym g ∙ sym (at (k / n) (k % n) hu hd s) ∙ sym (cond-false _ _ _ (ne_eqb _ _ s))
    ])

-- the answers of a stored table are its bytes
byte_back : (x : ℕ) → x < 256 → unwrap_or (channel_byte x) 255 ≡ x
byte_back x small =
    elim (cases_lt x 255) [
      | inl s ↦ ap (λ (b : Bool). unwrap_or (cond b (Some x) None) 255) (lt-ltb _ _ s)
      | inr s ↦ let z : 255 ≡ x = omega arith in ap (λ (b : Bool). unwrap_or (cond b (Some x) None) 255) (le-ltb _ _ s) ∙ z
    ]

pub hop_back : (n : ℕ) (xs ys : List ℕ) (u d : ℕ) → length xs ≡ n * n → u < n → d < n → (u ≡ d → ⊥) → get_or xs (u * n + d) 0 < 256
    → hop_byte (table_rule n xs ys) u d ≡ get_or xs (u * n + d) 0
hop_back n xs ys u d l hu hd ne small =
    let p : is_pair n u d ≡ true = grind (arith, nat_tests) in
    let h : u * n + d < length xs = omega (arith, mul-add-lt u n d n hu hd) in
    ap (λ (b : Bool). unwrap_or (cond b (channel_byte (get_or xs (u * n + d) 255)) None) 255) p
    ∙ ap (λ (x : ℕ). unwrap_or (channel_byte x) 255) (get_or_default xs (u * n + d) 255 0 h) ∙ byte_back (get_or xs (u * n + d) 0) small

pub lane_back : (n : ℕ) (xs ys : List ℕ) (u d : ℕ) → length ys ≡ n * n → u < n → d < n → (u ≡ d → ⊥)
    → (table_rule n xs ys).lane u d ≡ get_or ys (u * n + d) 0
lane_back n xs ys u d l hu hd ne =
    let p : is_pair n u d ≡ true = grind (arith, nat_tests) in
    let h : u * n + d < length ys = omega (arith, mul-add-lt u n d n hu hd) in
    cond-true _ _ _ p ∙ get_or_default ys (u * n + d) 255 0 h
