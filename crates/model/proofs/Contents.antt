-- What stands at a place, a sender slot or the slot of a channel, and how the parts of a state change it.
use Rattle.std.proofs.Common.{◌≡◌, ℕ, Bool, true, false, cond, not, ◌&&◌, eqb, ◌⊎◌, List, [], ◌∷◌, ◌++◌, is_some, Some, None, Option, sym, refl, ap, ◌∙◌, inl, inr, arith}
use Rattle.std.specs.Option.{option_map}
use Rattle.std.proofs.lemmas.Bool.{and_parts, and_from, eqb-true, eq-eqb, both_ways, cond-true, cond-false, cases_eq, cases_Bool}
use Rattle.model.specs.State.{State, put, listed, empty, with_mark, with_sender, held_in, front, has_room, with_put, with_taken, each}

-- A sender slot by switch and lane, or the slot of a channel by channel and lane.
pub data Place : Type 0 where
  sending : ℕ → ℕ → Place
  riding : ℕ → ℕ → Place

pub place_cases : (p q : Place) → (p ≡ q) ⊎ (p ≡ q → ⊥)
place_cases (sending u ℓ) (sending v m) = elim (cases_eq u v) [
  | inl e ↦ elim (cases_eq ℓ m) [ inl f ↦ inl cc | inr f ↦ inr (λ z. f cc) ]
  | inr e ↦ inr (λ z. e cc)
]
place_cases (sending u ℓ) (riding c m) = inr (λ e. let z : ◌≡◌ {A = ℕ} 0 1 = cc in omega arith)
place_cases (riding c ℓ) (sending u m) = inr (λ e. let z : ◌≡◌ {A = ℕ} 0 1 = cc in omega arith)
place_cases (riding c ℓ) (riding d m) = elim (cases_eq c d) [
  | inl e ↦ elim (cases_eq ℓ m) [ inl f ↦ inl cc | inr f ↦ inr (λ z. f cc) ]
  | inr e ↦ inr (λ z. e cc)
]

pub nil_cons : {A : Type 0} {P : Type 0} (x : A) (xs : List A) → [] ≡ x ∷ xs → P
nil_cons x xs e = let z : ◌≡◌ {A = ℕ} 0 1 = cc in absurd (omega arith)

abbrev pub first_of : {A : Type 0} → List A → Option A
first_of [] = None
first_of (x ∷ xs) = Some x

module _ {X : Type 0} (f : ℕ → ℕ → X) (a b : ℕ) (x : X) where
  put_same : put f a b x a b ≡ x
  put_same = cond-true (eqb a a && eqb b b) x (f a b) (and_from (eqb a a) (eqb b b) (eq-eqb a a refl) (eq-eqb b b refl))

  put_off : (i j : ℕ) → (i ≡ a → j ≡ b → ⊥) → put f a b x i j ≡ f i j
  put_off i j ne = elim (cases_Bool (eqb i a && eqb j b)) [
    | inl e ↦ let p = and_parts (eqb i a) (eqb j b) e in absurd (ne (eqb-true i a p.0) (eqb-true j b p.1))
    | inr e ↦ cond-false (eqb i a && eqb j b) x (f i j) e
  ]

module _ {L : Type 0} where
  -- Front first.
  unfoldable pub inside : State L → Place → List L
  inside s (sending u ℓ) = listed (s.sender u ℓ)
  inside s (riding c ℓ) = held_in s c ℓ

  pub inside_slot : (s : State L) (c ℓ : ℕ) → inside s (riding c ℓ) ≡ held_in s c ℓ
  unfolding inside
  inside_slot s c ℓ = refl

  pub inside_sender : (s : State L) (u ℓ : ℕ) → inside s (sending u ℓ) ≡ listed (s.sender u ℓ)
  unfolding inside
  inside_sender s u ℓ = refl

  pub inside_empty : (q : Place) → inside empty q ≡ []
  unfolding inside
  inside_empty (sending u ℓ) = refl
  inside_empty (riding c ℓ) = refl

  pub first_listed : (o : Option L) → first_of (listed o) ≡ o
  first_listed None = refl
  first_listed (Some x) = refl

  pub front_first : (s : State L) (c ℓ : ℕ) → first_of (inside s (riding c ℓ)) ≡ front s c ℓ
  unfolding inside
  front_first s c ℓ = first_listed (s.slot c ℓ)

  single_listed : (o : Option L) (x : L) (ys : List L) → listed o ≡ x ∷ ys → ys ≡ []
  single_listed None x ys e = nil_cons x ys e
  single_listed (Some y) x ys e = cc

  -- A place holds at most one.
  pub single : (s : State L) (q : Place) (x : L) (ys : List L) → inside s q ≡ x ∷ ys → ys ≡ []
  unfolding inside
  single s (sending u ℓ) x ys e = single_listed (s.sender u ℓ) x ys e
  single s (riding c ℓ) x ys e = single_listed (s.slot c ℓ) x ys e

  -- There is room in a slot exactly where it is empty.
  room_listed : (o : Option L) → ((not (is_some o) ≡ true) × (listed o ≡ [])) ⊎ ((x : L) × (not (is_some o) ≡ false) × (listed o ≡ x ∷ []))
  room_listed None = inl (refl, refl)
  room_listed (Some x) = inr (x, refl, refl)

  module _ (s : State L) (c ℓ : ℕ) where
    pub room_cases : ((has_room s c ℓ ≡ true) × (inside s (riding c ℓ) ≡ []))
        ⊎ ((x : L) × (has_room s c ℓ ≡ false) × (inside s (riding c ℓ) ≡ x ∷ []))
    unfolding inside
    room_cases = room_listed (s.slot c ℓ)

    pub room_none : has_room s c ℓ ≡ true → inside s (riding c ℓ) ≡ []
    room_none h = elim room_cases [ inl k ↦ k.1 | inr k ↦ absurd (both_ways (has_room s c ℓ) k.1 h) ]

    pub none_room : inside s (riding c ℓ) ≡ [] → has_room s c ℓ ≡ true
    none_room h = elim room_cases [ inl k ↦ k.0 | inr k ↦ nil_cons k.0 [] (sym h ∙ k.2) ]

    pub put_here : (x : L) → has_room s c ℓ ≡ true → inside (with_put s c ℓ (Some x)) (riding c ℓ) ≡ inside s (riding c ℓ) ++ (x ∷ [])
    unfolding inside
    put_here x h = ap listed (put_same s.slot c ℓ (Some x)) ∙ ap (λ (z : List L). z ++ (x ∷ [])) (sym (room_none h))

    pub taken_here : (x : L) → front s c ℓ ≡ Some x → inside s (riding c ℓ) ≡ x ∷ inside (with_taken s c ℓ) (riding c ℓ)
    unfolding inside
    taken_here x h = ap listed h ∙ ap (λ (o : Option L). x ∷ listed o) (sym (put_same s.slot c ℓ None))

    slot_off : (o : Option L) (r : Place) → (r ≡ riding c ℓ → ⊥) → inside (with_put s c ℓ o) r ≡ inside s r
    unfolding inside
    slot_off o (sending u m) ne = refl
    slot_off o (riding d m) ne = ap listed (put_off s.slot c ℓ o d m (λ e f. ne cc))

    pub put_else : (x : L) (r : Place) → (r ≡ riding c ℓ → ⊥) → inside (with_put s c ℓ (Some x)) r ≡ inside s r
    put_else x r ne = slot_off (Some x) r ne

    pub taken_else : (r : Place) → (r ≡ riding c ℓ → ⊥) → inside (with_taken s c ℓ) r ≡ inside s r
    taken_else r ne = slot_off None r ne

    pub put_mark : (o : Option L) → (with_put s c ℓ o).mark ≡ s.mark
    put_mark o = refl

    pub taken_mark : (with_taken s c ℓ).mark ≡ s.mark
    taken_mark = refl

    module _ (m : ℕ) where
      pub marked : (r : Place) → inside (with_mark s c ℓ m) r ≡ inside s r
      unfolding inside
      marked (sending u n) = refl
      marked (riding d n) = refl

      pub mark_here : (with_mark s c ℓ m).mark c ℓ ≡ m
      mark_here = put_same s.mark c ℓ m

      pub mark_else : (d n : ℕ) → (riding d n ≡ riding c ℓ → ⊥) → (with_mark s c ℓ m).mark d n ≡ s.mark d n
      mark_else d n ne = put_off s.mark c ℓ m d n (λ e f. ne cc)

  module _ (s : State L) (u ℓ : ℕ) (o : Option L) where
    pub sender_here : inside (with_sender s u ℓ o) (sending u ℓ) ≡ listed o
    unfolding inside
    sender_here = ap listed (put_same s.sender u ℓ o)

    pub sender_else : (r : Place) → (r ≡ sending u ℓ → ⊥) → inside (with_sender s u ℓ o) r ≡ inside s r
    unfolding inside
    sender_else (riding d m) ne = refl
    sender_else (sending v m) ne = ap listed (put_off s.sender u ℓ o v m (λ e f. ne cc))

    pub sender_mark : (with_sender s u ℓ o).mark ≡ s.mark
    sender_mark = refl

  -- A sender slot that is emptied gives away all that it holds.
  pub sender_taken_lem : (s : State L) (u ℓ : ℕ) (x : L) (rest : List L) → inside s (sending u ℓ) ≡ x ∷ rest
      → inside s (sending u ℓ) ≡ x ∷ inside (with_sender s u ℓ None) (sending u ℓ)
  sender_taken_lem s u ℓ x rest e = e ∙ ap (λ (z : List L). x ∷ z) (single s (sending u ℓ) x rest e ∙ sym (sender_here s u ℓ None))

pub mapped_cond : {X Y : Type 0} (f : X → Y) (b : Bool) (x y : Option X) → option_map f (cond b x y) ≡ cond b (option_map f x) (option_map f y)
mapped_cond f true x y = refl
mapped_cond f false x y = refl

some_mapped : {X Y : Type 0} (f : X → Y) (o : Option X) → is_some (option_map f o) ≡ is_some o
some_mapped f None = refl
some_mapped f (Some x) = refl

-- Another K in the place of each L, before a change or after it.
module _ {L K : Type 0} (f : L → K) (s : State L) (c ℓ : ℕ) where
  pub each_put : (x : Option L) → each f (with_put s c ℓ x) ≡ with_put (each f s) c ℓ (option_map f x)
  each_put x = λ k. record {
    slot = λ i j. mapped_cond f (eqb i c && eqb j ℓ) x (s.slot i j) k;
    mark = s.mark;
    sender = λ i j. option_map f (s.sender i j);
  }

  pub each_taken : each f (with_taken s c ℓ) ≡ with_taken (each f s) c ℓ
  each_taken = each_put None

  pub each_sender : (x : Option L) → each f (with_sender s c ℓ x) ≡ with_sender (each f s) c ℓ (option_map f x)
  each_sender x = λ k. record {
    slot = λ i j. option_map f (s.slot i j);
    mark = s.mark;
    sender = λ i j. mapped_cond f (eqb i c && eqb j ℓ) x (s.sender i j) k;
  }

  pub each_front : front (each f s) c ℓ ≡ option_map f (front s c ℓ)
  each_front = refl

  pub each_room : has_room (each f s) c ℓ ≡ has_room s c ℓ
  each_room = ap not (some_mapped f (s.slot c ℓ))
