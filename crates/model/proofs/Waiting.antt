-- One call, seen by a parcel that waits for a channel or that stands on its last one.
use Rattle.std.proofs.Common.{◌≡◌, ℕ, ◌<◌, true, ◌⊎◌, List, [], ◌∷◌, ◌++◌, Some, sym, refl, ap, ◌∙◌, subst, inl, inr, append-nil, arith}
use Rattle.std.proofs.lemmas.Bool.{both_ways}
use Rattle.model.specs.Net.{count, finish_of}
use Rattle.model.specs.Positions.{sender, over, position_count}
use Rattle.model.specs.Rules.{Setup}
use Rattle.model.specs.Verdicts.{Accepts}
use Rattle.model.specs.Packets.{Parcel, bare, placed, Call, post, serve, Event, delivered, moved}
use Rattle.model.specs.State.{State, has_room}
use Rattle.model.specs.Run.{lane_for, contends, granted, after}
use Rattle.model.proofs.Members.{none_some}
use Rattle.model.proofs.Contents.{Place, sending, riding, place_cases, nil_cons, inside, single, room_none, none_room}
use Rattle.model.proofs.Turning.{onward, round_trip, finds, Found}
use Rattle.model.proofs.Feeding.{position_below, sender_position, over_position}
use Rattle.model.proofs.Doing.{lane_at, switch_at, Goes, At, at_one, at_ends, only, only_here, only_else, nothing, Changes, changed, Moves, Did, refuses, takes, gives, moves, stays, rests, contending}
use Rattle.model.proofs.Fitting.{Fits, fits_next, fits_laned, Sound}

-- x is the first at r.
abbrev pub First : State Parcel → Place → Parcel → Type 0
First s r x = (rest : List Parcel) × (inside s r ≡ x ∷ rest)

empty_full : (s : State Parcel) (r q : Place) (x : Parcel) → inside s r ≡ [] → First s q x → r ≡ q → ⊥
empty_full s r q x e f z = nil_cons x f.0 (sym e ∙ ap (inside s) z ∙ f.1)

same_first : (s : State Parcel) (r q : Place) (x y : Parcel) → First s r x → First s q y → r ≡ q → x ≡ y
same_first s r q x y a b z = let e : x ∷ a.0 ≡ y ∷ b.0 = sym a.1 ∙ ap (inside s) z ∙ b.1 in cc

same_at : (s s' : State Parcel) (outs ins : Place → List Parcel) (r : Place) → Changes s s' outs ins → outs r ≡ [] → ins r ≡ []
    → inside s' r ≡ inside s r
same_at s s' outs ins r ch a b = sym (changed s s' outs ins [] [] r ch a b) ∙ append-nil (inside s r)

room_same : (s s' : State Parcel) (c ℓ : ℕ) → inside s' (riding c ℓ) ≡ inside s (riding c ℓ) → has_room s c ℓ ≡ true → has_room s' c ℓ ≡ true
room_same s s' c ℓ e h = none_room s' c ℓ (e ∙ room_none s c ℓ h)

-- The first leaves, and there is room.
room_after : (s s' : State Parcel) (ins : Place → List Parcel) (c ℓ : ℕ) (x : Parcel) → Changes s s' (only (riding c ℓ) x) ins
    → ins (riding c ℓ) ≡ [] → First s (riding c ℓ) x → has_room s' c ℓ ≡ true
room_after s s' ins c ℓ x ch i f =
    let q = riding c ℓ in
    let e = changed s s' (only q x) ins (x ∷ []) [] q ch (only_here q x q refl) i in
    let t : x ∷ f.0 ≡ x ∷ inside s' q = sym f.1 ∙ sym (append-nil (inside s q)) ∙ e in
    let z : f.0 ≡ inside s' q = cc in
    none_room s' c ℓ (sym z ∙ single s q x f.0 f.1)

serve_post : {P : Type 0} (a b t c ℓ : ℕ) → post a b t ≡ serve c ℓ → P
serve_post a b t c ℓ e = let z : ◌≡◌ {A = ℕ} 0 1 = cc in absurd (omega arith)

slot_of : (d m c ℓ : ℕ) → serve d m ≡ serve c ℓ → riding d m ≡ riding c ℓ
slot_of d m c ℓ e = cc

-- x, at the place q, which is position j of channel c in lane ℓ, goes on by c.
pub record Bound (g : Setup) (c ℓ j : ℕ) (q : Place) (x : Parcel) : Type 0 where
  pub exists : c < count g.net
  pub laned : ℓ < g.lanes
  pub at : At g c ℓ j q
  pub goes : Goes g q c x.packet

pub bound : (g : Setup) → Accepts g → (q : Place) (x : Parcel) (c : ℕ) (ds : List ℕ) → Fits g q x.packet (c ∷ ds)
    → (j : ℕ) × Bound g c (lane_at q) j q x
bound g acc (sending u ℓ) x c ds f =
    let n = fits_next g (sending u ℓ) x.packet c ds f in
    let p = sender_position g.net c n.1 in (
      p.0,
      record {
        exists = n.1;
        laned = fits_laned g acc (sending u ℓ) x.packet (c ∷ ds) f;
        at = (sender, p.1, ap (λ (v : ℕ). sending v ℓ) n.2);
        goes = n.0;
      },
    )
bound g acc (riding b ℓ) x c ds f =
    let n = fits_next g (riding b ℓ) x.packet c ds f in
    let p = over_position g.net c n.1 b (f.there b ℓ refl) (sym n.2) in (
      p.0,
      record {
        exists = n.1;
        laned = fits_laned g acc (riding b ℓ) x.packet (c ∷ ds) f;
        at = (over b, p.1, refl);
        goes = n.0;
      },
    )

module _ (g : Setup) (c ℓ j : ℕ) (q : Place) (x : Parcel) (B : Bound g c ℓ j q x) where
  abbrev k : ℕ
  k = position_count g.net c

  -- It is the first there, and the mark is e positions before its own.
  abbrev pub Waits : State Parcel → ℕ → Type 0
  Waits s e = First s q x × (e < k) × (onward k e (s.mark c ℓ) ≡ j)

  abbrev Next : State Parcel → State Parcel → Call → ℕ → Type 0
  Next s s' f e =
      (First s' (riding c ℓ) x × ((b : ℕ) → q ≡ riding b ℓ → has_room s' b ℓ ≡ true))
      ⊎ (((e' : ℕ) × (e' < e) × Waits s' e')
      ⊎ (Waits s' e × (has_room s c ℓ ≡ true → (has_room s' c ℓ ≡ true) × (f ≡ serve c ℓ → ⊥))))

  pub waits_now : (s : State Parcel) → Sound g s → First s q x → (e : ℕ) × Waits s e
  waits_now s I f =
      let jk = position_below g.net c j B.at.0 B.at.1 in
      let mk : s.mark c ℓ < k = elim (I.turns c ℓ) [ inl z ↦ omega arith | inr h ↦ h ] in
      let r = round_trip k (s.mark c ℓ) j mk jk in
      (r.0, (f, r.1, r.2))

  found : (i : ℕ) (s : State Parcel) (e : ℕ) → Waits s e
      → Found (contends bare (placed i) g s c ℓ) k e j (granted bare (placed i) g s c ℓ)
  found i s e w =
      finds k e k (s.mark c ℓ) j (contends bare (placed i) g s c ℓ) w.1 w.2
      (contending g i s c ℓ j q x w.0.0 B.at w.0.1 B.goes)

  -- A serve of the slot with room moves.
  pub serve_moves : (i : ℕ) (s s' : State Parcel) (f : Call) (v : Event Parcel) (e : ℕ) → Did g i s f v s' → Waits s e
      → f ≡ serve c ℓ → has_room s c ℓ ≡ true → (p : ℕ) × (v ≡ moved p)
  serve_moves i s s' f v e (refuses _ _ un) w z h = absurd (un c ℓ z B.exists B.laned)
  serve_moves i s s' f v e (takes p _ _ _ _ _) w z h = serve_post p.source p.destination p.tag c ℓ z
  serve_moves i s s' f v e (gives d m y rest _ full _ _ _) w z h =
      absurd (empty_full s (riding c ℓ) (riding d m) y (room_none s c ℓ h) (rest, full) (sym (slot_of d m c ℓ z)))
  serve_moves i s s' f v e (moves d m p _ _ _ _) w z h = (p, refl)
  serve_moves i s s' f v e (stays d m full un) w z h =
      let dc : d ≡ c = cc in
      let ml : m ≡ ℓ = cc in
      absurd (both_ways (has_room s d m) full (ap (λ (u : ℕ). has_room s u m) dc ∙ ap (λ (u : ℕ). has_room s c u) ml ∙ h))
  serve_moves i s s' f v e (rests d m room none) w z h =
      let dc : d ≡ c = cc in
      let ml : m ≡ ℓ = cc in
      let F = found i s e w in
      none_some F.0 (sym none ∙ ap (λ (u : ℕ). granted bare (placed i) g s u m) dc
      ∙ ap (λ (u : ℕ). granted bare (placed i) g s c u) ml ∙ F.1)

  stays_on : (s s' : State Parcel) (f : Call) (e : ℕ) → Waits s e → inside s' q ≡ inside s q → s'.mark c ℓ ≡ s.mark c ℓ
      → (has_room s c ℓ ≡ true → (has_room s' c ℓ ≡ true) × (f ≡ serve c ℓ → ⊥)) → Next s s' f e
  stays_on s s' f e w a m r =
      inr (inr (((w.0.0, a ∙ w.0.1), w.1, subst (λ (z : ℕ). onward k e z ≡ j) (sym m) w.2), r))

  module _ (i : ℕ) (s s' : State Parcel) (e : ℕ) (w : Waits s e) where
    -- A grant of the slot that x waits for.
    mine : (p : ℕ) (r : Place) (y : Parcel) → Moves g i s s' c ℓ p r y → Next s s' (serve c ℓ) e
    mine p r y m =
        let here = riding c ℓ in
        let none = room_none s c ℓ m.room in
        let F = found i s e w in
        let same : F.0 ≡ p = cc in
        elim (place_cases q r) [
          | inl z ↦
              let xy = same_first s q r x y w.0 (m.rest, m.first) z in
              let ch : Changes s s' (only q x) (only here x) = subst (λ (v : Parcel). Changes s s' (only q v) (only here v)) (sym xy)
              (subst (λ (v : Place). Changes s s' (only v y) (only here y)) (sym z) m.changes) in
              let ne : q ≡ here → ⊥ = λ v. m.apart (sym z ∙ v) in
              let got = changed s s' (only q x) (only here x) [] (x ∷ []) here ch
              (only_else q x here (λ v. ne (sym v))) (only_here here x here refl) in
              inl (
                ([], sym got ∙ ap (λ (v : List Parcel). v ++ (x ∷ [])) none),
                λ b qb.
                    room_after s s' (only here x) b ℓ x (subst (λ (v : Place). Changes s s' (only v x) (only here x)) qb ch)
                    (only_else here x (riding b ℓ) (λ v. ne (qb ∙ v))) (w.0.0, ap (inside s) (sym qb) ∙ w.0.1),
              )
          | inr n ↦ elim F.2 [
            | inl z ↦ absurd (n (at_one g c ℓ j q r B.at (subst (λ (v : ℕ). At g c ℓ v r) (sym same ∙ z) m.at)))
            | inr z ↦
                let keeps = same_at s s' (only r y) (only here y) q m.changes (only_else r y q n)
                (only_else here y q (λ v. empty_full s here q x none w.0 (sym v))) in
                inr (inl (
                  z.0,
                  z.1,
                  (
                    (w.0.0, keeps ∙ w.0.1),
                    omega arith,
                    subst (λ (v : ℕ). onward k z.0 v ≡ j) (ap (after k) same ∙ sym m.marked_here) z.2,
                  ),
                ))
          ]
        ]

    -- A grant of another slot does not take x.
    other : (d m p : ℕ) (r : Place) (y : Parcel) → Moves g i s s' d m p r y → (riding d m ≡ riding c ℓ → ⊥) → q ≡ r → ⊥
    other d m p r y M ne z =
        let xy = same_first s q r x y w.0 (M.rest, M.first) z in
        let e₁ : Some c ≡ Some d =
        sym B.goes.1 ∙ ap (λ (v : Place). g.rule.next (switch_at g.net v) x.packet.destination) z
        ∙ ap (λ (v : Parcel). g.rule.next (switch_at g.net r) v.packet.destination) xy ∙ M.goes.1 in
        let dc : d ≡ c = cc in
        let lanes : m ≡ ℓ = sym (at_ends g d m p r M.at).1 ∙ ap lane_at (sym z) ∙ (at_ends g c ℓ j q B.at).1 in
        ne cc

  pub tick : (i : ℕ) (s s' : State Parcel) (f : Call) (v : Event Parcel) (e : ℕ) → Did g i s f v s' → Waits s e → Next s s' f e
  tick i s s' f v e (refuses _ _ un) w = stays_on s s' f e w refl refl (λ h. (h, λ z. un c ℓ z B.exists B.laned))
  tick i s s' f v e (takes p _ pair none ch mk) w =
      let r = sending p.source (lane_for g p) in
      stays_on s s' f e w
      (same_at s s' nothing (only r (placed i p)) q ch refl (only_else r (placed i p) q (λ z. empty_full s r q x none w.0 (sym z))))
      (ap (λ (m : ℕ → ℕ → ℕ). m c ℓ) mk)
      (λ h. (
        room_same s s' c ℓ (same_at s s' nothing (only r (placed i p)) (riding c ℓ) ch refl
            (only_else r (placed i p) (riding c ℓ) (λ z. let y : ◌≡◌ {A = ℕ} 0 1 = cc in omega arith))) h,
        λ z. serve_post p.source p.destination p.tag c ℓ z,
      ))
  tick i s s' f v e (gives d m y rest _ h end ch mk) w =
      let r = riding d m in
      let full : has_room s c ℓ ≡ true → riding c ℓ ≡ r → ⊥ = λ ro z. empty_full s (riding c ℓ) r y (room_none s c ℓ ro) (rest, h) z in
      stays_on s s' f e w
      (same_at s s' (only r y) nothing q ch (only_else r y q (λ z.
      B.goes.0 (ap (λ (u : Parcel). u.packet.destination) (same_first s q r x y w.0 (rest, h) z)
      ∙ end ∙ ap (switch_at g.net) (sym z)))) refl)
      (ap (λ (n : ℕ → ℕ → ℕ). n c ℓ) mk)
      (λ ro. (
        room_same s s' c ℓ (same_at s s' (only r y) nothing (riding c ℓ) ch (only_else r y (riding c ℓ) (full ro)) refl) ro,
        λ z. full ro (sym (slot_of d m c ℓ z)),
      ))
  tick i s s' f v e (moves d m p r y _ M) w = elim (place_cases (riding d m) (riding c ℓ)) [
    | inl z ↦
        let dc : d ≡ c = cc in
        let ml : m ≡ ℓ = cc in
        let N : Moves g i s s' c ℓ p r y =
        subst (λ (u : ℕ). Moves g i s s' c u p r y) ml (subst (λ (u : ℕ). Moves g i s s' u m p r y) dc M) in
        let call : serve c ℓ ≡ serve d m = cc in
        subst (λ (u : Call). Next s s' u e) call (mine i s s' e w p r y N)
    | inr n ↦
        let apart = other i s s' e w d m p r y M n in
        stays_on s s' f e w
        (same_at s s' (only r y) (only (riding d m) y) q M.changes (only_else r y q apart)
        (only_else (riding d m) y q (λ z. empty_full s (riding d m) q x (room_none s d m M.room) w.0 (sym z))))
        (M.marked_else c ℓ (λ z. n (sym z)))
        (λ ro. (
          room_same s s' c ℓ (same_at s s' (only r y) (only (riding d m) y) (riding c ℓ) M.changes
              (only_else r y (riding c ℓ) (λ z. empty_full s (riding c ℓ) r y (room_none s c ℓ ro) (M.rest, M.first) z))
              (only_else (riding d m) y (riding c ℓ) (λ z. n (sym z)))) ro,
          λ z. n (slot_of d m c ℓ z),
        ))
  ]
  tick i s s' f v e (stays d m full un) w = stays_on s s' f e w refl refl (λ h. (
    h,
    λ z.
        let r = serve_moves i s s' f v e (stays d m full un) w z h in
        let y : ◌≡◌ {A = ℕ} 0 1 = cc r.1 in omega arith,
  ))
  tick i s s' f v e (rests d m room none) w = stays_on s s' f e w refl refl (λ h. (
    h,
    λ z.
        let r = serve_moves i s s' f v e (rests d m room none) w z h in
        let y : ◌≡◌ {A = ℕ} 0 1 = cc r.1 in omega arith,
  ))

-- A parcel on its last channel stays until a serve of it delivers it.
module _ (g : Setup) (c ℓ : ℕ) (x : Parcel) (cn : c < count g.net) (ln : ℓ < g.lanes)
    (end : x.packet.destination ≡ finish_of g.net c) where
  pub last : (i : ℕ) (s s' : State Parcel) (f : Call) (v : Event Parcel) → Did g i s f v s' → First s (riding c ℓ) x
      → ((v ≡ delivered x) × (has_room s' c ℓ ≡ true)) ⊎ (First s' (riding c ℓ) x × (f ≡ serve c ℓ → ⊥))
  last i s s' f v (refuses _ _ un) h = inr (h, λ z. un c ℓ z cn ln)
  last i s s' f v (takes p _ _ none ch _) h =
      let r = sending p.source (lane_for g p) in
      inr (
        (
          h.0,
          same_at s s' nothing (only r (placed i p)) (riding c ℓ) ch refl (only_else r (placed i p) (riding c ℓ) (λ z.
              empty_full s r (riding c ℓ) x none h (sym z))) ∙ h.1,
        ),
        λ z. serve_post p.source p.destination p.tag c ℓ z,
      )
  last i s s' f v (gives d m y rest _ full _ ch _) h = elim (place_cases (riding c ℓ) (riding d m)) [
    | inl z ↦
        let xy = same_first s (riding c ℓ) (riding d m) x y h (rest, full) z in
        let ch' : Changes s s' (only (riding c ℓ) x) nothing =
        subst (λ (u : Parcel). Changes s s' (only (riding c ℓ) u) nothing) (sym xy)
        (subst (λ (u : Place). Changes s s' (only u y) nothing) (sym z) ch) in
        inl (ap (λ (u : Parcel). delivered u) (sym xy), room_after s s' nothing c ℓ x ch' refl h)
    | inr n ↦ inr (
      (h.0, same_at s s' (only (riding d m) y) nothing (riding c ℓ) ch (only_else (riding d m) y (riding c ℓ) n) refl ∙ h.1),
      λ z. n (sym (slot_of d m c ℓ z)),
    )
  ]
  last i s s' f v (moves d m p r y _ M) h =
      let none = room_none s d m M.room in
      inr (
        (
          h.0,
          same_at s s' (only r y) (only (riding d m) y) (riding c ℓ) M.changes
              (only_else r y (riding c ℓ) (λ z. M.goes.0
              (ap (λ (u : Parcel). u.packet.destination) (sym (same_first s (riding c ℓ) r x y h (M.rest, M.first) z))
              ∙ end ∙ ap (switch_at g.net) z)))
              (only_else (riding d m) y (riding c ℓ) (λ z. empty_full s (riding d m) (riding c ℓ) x none h (sym z))) ∙ h.1,
        ),
        λ z. empty_full s (riding d m) (riding c ℓ) x none h (slot_of d m c ℓ z),
      )
  last i s s' f v (stays d m _ un) h = inr (
    h,
    λ z.
        let y = slot_of d m c ℓ z in
        let dc : d ≡ c = cc in
        un x h.0 (ap (inside s) y ∙ h.1) (end ∙ ap (finish_of g.net) (sym dc)),
  )
  last i s s' f v (rests d m room _) h = inr (h, λ z. empty_full s (riding d m) (riding c ℓ) x (room_none s d m room) h (slot_of d m c ℓ z))
