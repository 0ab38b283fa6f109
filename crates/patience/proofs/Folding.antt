-- What `fold` gives at the end of a chain.
use Rattle.std.proofs.Common.{◌≡◌, ℕ, zero, suc, max, Bool, true, false, cond, List, ◌∷◌, ◌++◌, [], Option, fold, map, filter, sym, refl, ap, ◌∙◌, add-one, ◌+◌, ◌<◌, ◌≤◌, slice_index_or, subst, inl, inr, arith}
use Rattle.std.specs.Fn.{Called}
use Rattle.std.specs.Array.{IsFromFnResult, IsFromFnResultFrom}
use Rattle.std.specs.Iterator.{Drains}
use Rattle.std.specs.Iterator.Runs.{CallKeepsClosure}
use Rattle.std.specs.List.{FoldsTo, range_with_len}
use Rattle.std.proofs.lemmas.Fn.{fold_over}
use Rattle.std.proofs.lemmas.Iterator.{YieldsList}
use Rattle.std.proofs.lemmas.List.Sums.{fold_push}
use Rattle.std.proofs.lemmas.Bool.{cases_eq}
use Rattle.std.proofs.lemmas.List.{map-append, map-id, append-nil}
use Rattle.std.proofs.lemmas.List.Elements.{filter-append}
use Rattle.std.proofs.lemmas.List.FromFn.{map-range_with_len_more}
use Rattle.patience.specs.Caps.{heaviest}
use denote.Param.Members.{Mut}

-- a chain of numbers, folded by a closure that computes h
pub folded : {S F : Type 0} {steps : S → Option ℕ → S → Type 0} {g : Mut F (ℕ × (ℕ × Unit {0})) ℕ} {s : S} {all : List ℕ} (h : ℕ → ℕ → ℕ) {f : F} {a r : ℕ}
    → (xs : List ℕ) × (f' : F) × Drains steps s xs × FoldsTo {P = F × ℕ} (λ p x q. Called g p.0 (p.1, (x, tt)) q.1 q.0) (f, a) xs (f', r)
    → YieldsList steps (λ y. y) s all → ((x y b : ℕ) (q : F) → Called g f (x, (y, tt)) b q → (q ≡ f) × (b ≡ h x y)) → r ≡ fold h a all
folded {steps = steps} {g = g} {s = s} {all = all} h {f = f} {a = a} {r = r} ran chain k =
    fold_over steps (λ y. y) g (λ ys b. b ≡ fold h a ys) f
    (λ ys b x d q j c. let e = k b x d q c in (e.1 ∙ ap (λ (z : ℕ). h z x) j ∙ sym (fold_push h a ys x), e.0)) s all a r chain.runs refl ran

-- one number more
range_push : (n : ℕ) → range_with_len 0 (suc n) ≡ range_with_len 0 n ++ n ∷ []
range_push n =
    sym (map-id (range_with_len 0 (suc n))) ∙ ap (λ (k : ℕ). map (λ (j : ℕ). j) (range_with_len 0 k)) (sym (add-one n))
    ∙ map-range_with_len_more (λ (j : ℕ). j) 0 n n (omega arith) ∙ ap (λ (xs : List ℕ). xs ++ n ∷ []) (map-id (range_with_len 0 n))

-- the largest over a range, as a chain finds it
pub heaviest_chain : (f : ℕ → ℕ) (e : ℕ → Bool) (n : ℕ) → fold max 1 (map f (filter e (range_with_len 0 n))) ≡ heaviest f e n
heaviest_chain f e zero = refl
heaviest_chain f e (suc n) =
    ap (λ (xs : List ℕ). fold max 1 (map f (filter e xs))) (range_push n)
    ∙ ap (λ (xs : List ℕ). fold max 1 (map f xs)) (filter-append e (range_with_len 0 n) (n ∷ []))
    ∙ ap (fold max 1) (map-append f (filter e (range_with_len 0 n)) (filter e (n ∷ [])))
    ∙ last (heaviest_chain f e n) (e n)
  where
    last : fold max 1 (map f (filter e (range_with_len 0 n))) ≡ heaviest f e n → (b : Bool)
        → fold max 1 (map f (filter e (range_with_len 0 n)) ++ map f (cond b (n ∷ []) [])) ≡ cond b (max (heaviest f e n) (f n)) (heaviest f e n)
    last ih true = fold_push max 1 (map f (filter e (range_with_len 0 n))) (f n) ∙ ap (λ (x : ℕ). max x (f n)) ih
    last ih false = ap (fold max 1) (append-nil (map f (filter e (range_with_len 0 n)))) ∙ ih

-- what `from_fn` gives at each place, where each call leaves the closure as it was
pub made_at : {F B : Type 0} (g : Mut F (ℕ × Unit {0}) B) (f : F) (ys : List B) (n : ℕ) → IsFromFnResult g f ys n → CallKeepsClosure g f
    → (i : ℕ) (d : B) → i < n → Called g f (i, tt) (slice_index_or ys i d) f
made_at {F = F} {B = B} g f ys n made keeps i d h = from n 0 made.each i (omega arith) (omega arith)
  where
    from : (m k : ℕ) → IsFromFnResultFrom g f ys k m → (i : ℕ) → k ≤ i → i < k + m → Called g f (i, tt) (slice_index_or ys i d) f
    from zero k each i lo hi = absurd (omega arith)
    from (suc m) k each i lo hi =
        let q = each.0 in
        let same : q ≡ f = keeps (k, tt) each.1 q each.3 in
        elim (cases_eq i k) [
          | inl e ↦
              subst (λ (j : ℕ). Called g f (j, tt) (slice_index_or ys j d) f) (sym e)
              (subst (λ (y : B). Called g f (k, tt) y f) (sym (each.2.1 d)) (subst (λ (p : F). Called g f (k, tt) each.1 p) same each.3))
          | inr ne ↦ from m (k + 1) (subst (λ (p : F). IsFromFnResultFrom g p ys (k + 1) m) same each.4) i (omega (arith, ne)) (omega arith)
        ]
