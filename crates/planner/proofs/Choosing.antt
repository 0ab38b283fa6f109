-- The channels that lead nearer, gathered one after the other.
use Rattle.std.proofs.Common.{◌≡◌, ℕ, ◌+◌, ◌≤◌, Bool, true, false, cond, List, [], ◌∷◌, ◌++◌, length, sym, refl, ap, ◌∙◌, arith}
use Rattle.std.specs.List.{filter, range_with_len}
use Rattle.std.proofs.lemmas.List.{map-id, append-nil, length_push}
use Rattle.std.proofs.lemmas.List.FromFn.{filter_of_map_range_with_len_more}
use Rattle.model.specs.Lists.{keep, below}
use Rattle.model.specs.Net.{Net, count}
use Rattle.model.specs.Planner.{nearer}
use Rattle.planner.specs.Rows.{is_nearer}
use Rattle.planner.proofs.Squares.{up_from_range}

keep_filter : (f : ℕ → Bool) (xs : List ℕ) → keep f xs ≡ filter f xs
keep_filter f [] = refl
keep_filter f (x ∷ xs) = ap (λ zs. cond (f x) (x ∷ zs) zs) (keep_filter f xs)

filter_more : (p : ℕ → Bool) (i : ℕ) → filter p (range_with_len 0 (i + 1)) ≡ filter p (range_with_len 0 i) ++ cond (p i) (i ∷ []) []
filter_more p i =
    ap (filter p) (sym (map-id (range_with_len 0 (i + 1))))
    ∙ filter_of_map_range_with_len_more p (λ k. k) 0 i i (omega arith)
    ∙ ap (λ zs. filter p zs ++ cond (p i) (i ∷ []) []) (map-id (range_with_len 0 i))

module _ (net : Net) (u d : ℕ) where
  -- The list has the candidates below i.
  pub record Gathered (i : ℕ) (xs : List ℕ) : Type 0 where
    pub so_far : xs ≡ filter (is_nearer net u d) (range_with_len 0 i)
    pub few : length xs ≤ i

  on : (i : ℕ) (xs : List ℕ) (b : Bool) → b ≡ is_nearer net u d i → Gathered i xs → xs ++ cond b (i ∷ []) [] ≡ filter (is_nearer net u d) (range_with_len 0 (i + 1))
  on i xs b e G =
      ap (λ zs. zs ++ cond b (i ∷ []) []) G.so_far
      ∙ ap (λ (t : Bool). filter (is_nearer net u d) (range_with_len 0 i) ++ cond t (i ∷ []) []) e
      ∙ sym (filter_more (is_nearer net u d) i)

  pub gathered_yes : (i : ℕ) (xs ys : List ℕ) → ys ≡ xs ++ i ∷ [] → true ≡ is_nearer net u d i → Gathered i xs → Gathered (i + 1) ys
  gathered_yes i xs ys p e G =
      let few = G.few in record { so_far = p ∙ on i xs true e G; few = omega (arith, ap length p, length_push xs i) }

  pub gathered_no : (i : ℕ) (xs ys : List ℕ) → ys ≡ xs → false ≡ is_nearer net u d i → Gathered i xs → Gathered (i + 1) ys
  gathered_no i xs ys p e G =
      let few = G.few in record { so_far = p ∙ sym (append-nil xs) ∙ on i xs false e G; few = omega (arith, ap length p) }

  pub gathered_all : (i : ℕ) (xs : List ℕ) → i ≡ count net → Gathered i xs → xs ≡ nearer net u d
  gathered_all i xs e G =
      G.so_far ∙ ap (λ (k : ℕ). filter (is_nearer net u d) (range_with_len 0 k)) e
      ∙ sym (keep_filter (is_nearer net u d) (below (count net)) ∙ ap (filter (is_nearer net u d)) (up_from_range (count net) 0))
