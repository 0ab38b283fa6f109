-- The positions of a channel: each feeds it, and the sender slot and every channel that ends where it starts are among them.
use Rattle.std.proofs.Common.{◌≡◌, ℕ, zero, suc, ◌+◌, ◌<◌, Bool, true, false, cond, eqb, ltb, List, [], ◌∷◌, map, length, Some, sym, refl, ap, ◌∙◌, subst, inl, inr, arith}
use Rattle.std.specs.List.{slice_get}
use Rattle.std.proofs.lemmas.Bool.{and_parts, and_from, eqb-true, eq-eqb, lt-ltb, both_ways, cases_lt}
use Rattle.std.proofs.lemmas.Option.{slice_get_past}
use Rattle.model.specs.Lists.{up_from, below, keep}
use Rattle.model.specs.Net.{Net, count, start_of, finish_of}
use Rattle.model.specs.Positions.{Position, sender, over, feeds, positions, position_count, position_at}
use Rattle.model.proofs.Members.{none_some}

nth_below : {A : Type 0} (xs : List A) (i : ℕ) (x : A) → slice_get xs i ≡ Some x → i < length xs
nth_below xs i x e = elim (cases_lt i (length xs)) [ inl h ↦ h | inr h ↦ none_some x (sym (slice_get_past xs i h) ∙ e) ]

module _ {A : Type 0} (f : A → Bool) where
  abbrev In : List A → A → Type 0
  In xs x = (i : ℕ) × (slice_get xs i ≡ Some x)

  kept : (xs : List A) (i : ℕ) (x : A) → slice_get (keep f xs) i ≡ Some x → (f x ≡ true) × In xs x
  kept [] i x e = none_some x e
  kept (y ∷ ys) i x e = go (kept ys) (f y) refl i e
    where
      go : ((i : ℕ) (x : A) → slice_get (keep f ys) i ≡ Some x → (f x ≡ true) × In ys x) → (b : Bool) → f y ≡ b
          → (i : ℕ) → slice_get (cond b (y ∷ keep f ys) (keep f ys)) i ≡ Some x → (f x ≡ true) × In (y ∷ ys) x
      go ih true q zero e = let z : y ≡ x = cc in (subst (λ (w : A). f w ≡ true) z q, (0, e))
      go ih true q (suc i) e = let r = ih i x e in (r.0, (suc r.1.0, r.1.1))
      go ih false q i e = let r = ih i x e in (r.0, (suc r.1.0, r.1.1))

  keeps : (xs : List A) (i : ℕ) (x : A) → slice_get xs i ≡ Some x → f x ≡ true → In (keep f xs) x
  keeps [] i x e h = none_some x e
  keeps (y ∷ ys) i x e h = go (keeps ys) i e (f y) refl
    where
      go : ((i : ℕ) (x : A) → slice_get ys i ≡ Some x → f x ≡ true → In (keep f ys) x) → (i : ℕ) → slice_get (y ∷ ys) i ≡ Some x
          → (b : Bool) → f y ≡ b → In (cond b (y ∷ keep f ys) (keep f ys)) x
      go ih zero e true q = (0, e)
      go ih zero e false q = let z : y ≡ x = cc in absurd (both_ways (f y) q (ap f z ∙ h))
      go ih (suc i) e true q = let r = ih i x e h in (suc r.0, r.1)
      go ih (suc i) e false q = ih i x e h

nth_over : (k i j : ℕ) → j < k → slice_get (map over (up_from k i)) j ≡ Some (over (i + j))
nth_over zero i j h = absurd (omega arith)
nth_over (suc k) i zero h = let q : i ≡ i + 0 = omega arith in ap (λ (z : ℕ). Some (over z)) q
nth_over (suc k) i (suc j) h =
    let q : suc i + j ≡ i + suc j = omega arith in
    nth_over k (suc i) j (omega arith) ∙ ap (λ (z : ℕ). Some (over z)) q

over_nth : (k i j x : ℕ) → slice_get (map over (up_from k i)) j ≡ Some (over x) → x < i + k
over_nth zero i j x e = none_some (over x) e
over_nth (suc k) i zero x e = let z : i ≡ x = cc in omega arith
over_nth (suc k) i (suc j) x e = let r = over_nth k (suc i) j x e in omega arith

module _ (net : Net) (c : ℕ) where
  abbrev Positioned : Position → Type 0
  Positioned q = (p : ℕ) × (position_at net c p ≡ Some q)

  pub position_below : (p : ℕ) (q : Position) → position_at net c p ≡ Some q → p < position_count net c
  position_below p q e = nth_below (positions net c) p q e

  pub position_ends : (p x : ℕ) → position_at net c p ≡ Some (over x) → (x < count net) × (finish_of net x ≡ start_of net c)
  position_ends p x e =
      let r = kept (λ (y : Position). feeds net y c) (sender ∷ map over (below (count net))) p (over x) e in
      let e = and_parts (ltb c (count net)) (eqb (finish_of net x) (start_of net c)) r.0 in
      (exists r.1.0 r.1.1, eqb-true (finish_of net x) (start_of net c) e.1)
    where
      exists : (j : ℕ) → slice_get (sender ∷ map over (below (count net))) j ≡ Some (over x) → x < count net
      exists zero e = let z : ◌≡◌ {A = ℕ} 0 1 = cc in absurd (omega arith)
      exists (suc j) e = let r = over_nth (count net) 0 j x e in omega arith

  module _ (cn : c < count net) where
    pub sender_position : Positioned sender
    sender_position =
        keeps (λ (y : Position). feeds net y c) (sender ∷ map over (below (count net))) 0 sender refl (lt-ltb c (count net) cn)

    pub over_position : (x : ℕ) → x < count net → finish_of net x ≡ start_of net c → Positioned (over x)
    over_position x xn e =
        let q : 0 + x ≡ x = omega arith in
        keeps (λ (y : Position). feeds net y c) (sender ∷ map over (below (count net))) (suc x) (over x)
        (nth_over (count net) 0 x xn ∙ ap (λ (z : ℕ). Some (over z)) q)
        (and_from (ltb c (count net)) (eqb (finish_of net x) (start_of net c))
        (lt-ltb c (count net) cn) (eq-eqb (finish_of net x) (start_of net c) e))
