-- A call as a view: one constructor an outcome, with what it changes at each place.
use Rattle.std.proofs.Common.{◌≡◌, ℕ, ◌<◌, Bool, true, false, cond, not, ◌&&◌, eqb, ltb, List, [], ◌∷◌, ◌++◌, Some, None, Option, sym, refl, ap, ◌∙◌, subst, inl, inr, append_assoc, append-nil, arith}
use Rattle.std.specs.Option.{option_map}
use Rattle.std.proofs.lemmas.Bool.{and_parts, and_from, eqb-true, eqb-false, eq-eqb, ne_eqb, lt-ltb, both_ways, false≢true, not-true, not_from_false}
use Rattle.model.specs.Net.{Net, count, start_of, finish_of}
use Rattle.model.specs.Positions.{Position, sender, over, position_count, position_at}
use Rattle.model.specs.Refusals.{Refusal}
use Rattle.model.specs.Rules.{Setup}
use Rattle.model.specs.Packets.{Packet, Parcel, bare, placed, Call, post, serve, Event, taken, delivered, moved, waits, idle, refused}
use Rattle.model.specs.State.{State, listed, with_mark, with_sender, front, has_room, with_put, with_taken}
use Rattle.model.specs.Run.{Step, names, next_of, lane_for, wants, held_at, cleared, contends, granted, advanced, grant, arrived, served, serve_step, sent, post_step, after, missing_number, sender_taken, laneless_pair}
use Rattle.model.specs.Run as run
use Rattle.model.specs.Promise.{of_pair}
use Rattle.model.specs.History.{step_at}
use Rattle.model.proofs.Contents.{Place, sending, riding, place_cases, nil_cons, first_of, inside, inside_sender, first_listed, front_first, room_none, none_room, put_here, put_else, put_mark, taken_here, taken_else, taken_mark, marked, mark_here, mark_else, sender_here, sender_else, sender_mark, sender_taken_lem}
use Rattle.model.proofs.Members.{none_some}
use Rattle.model.proofs.Turning.{found_passes}
use Rattle.model.proofs.Feeding.{position_ends}

-- The place of a position at switch u in lane ℓ; the lane of a place, and the switch from which what stands there goes on.
abbrev spot : ℕ → ℕ → Position → Place
spot u ℓ sender = sending u ℓ
spot u ℓ (over b) = riding b ℓ

abbrev pub lane_at : Place → ℕ
lane_at (sending u ℓ) = ℓ
lane_at (riding c ℓ) = ℓ

abbrev pub switch_at : Net → Place → ℕ
switch_at net (sending u ℓ) = u
switch_at net (riding c ℓ) = finish_of net c

-- A packet that stands at q goes on by channel c.
abbrev pub Goes : Setup → Place → ℕ → Packet → Type 0
Goes g q c p = (p.destination ≡ switch_at g.net q → ⊥) × (next_of g (switch_at g.net q) p ≡ Some c)

-- Position p of channel c in lane ℓ is the place q.
abbrev pub At : Setup → ℕ → ℕ → ℕ → Place → Type 0
At g c ℓ p q = (pos : Position) × (position_at g.net c p ≡ Some pos) × (spot (start_of g.net c) ℓ pos ≡ q)

pub at_one : (g : Setup) (c ℓ p : ℕ) (q r : Place) → At g c ℓ p q → At g c ℓ p r → q ≡ r
at_one g c ℓ p q r a b = let e : a.0 ≡ b.0 = cc in sym a.2 ∙ ap (spot (start_of g.net c) ℓ) e ∙ b.2

pub at_ends : (g : Setup) (c ℓ p : ℕ) (q : Place) → At g c ℓ p q → (switch_at g.net q ≡ start_of g.net c) × (lane_at q ≡ ℓ)
at_ends g c ℓ p q (sender, e, z) = subst (λ (r : Place). (switch_at g.net r ≡ start_of g.net c) × (lane_at r ≡ ℓ)) z (refl, refl)
at_ends g c ℓ p q (over b, e, z) =
    subst (λ (r : Place). (switch_at g.net r ≡ start_of g.net c) × (lane_at r ≡ ℓ)) z ((position_ends g.net c p b e).1, refl)

-- The parcel x at the place q, and nothing elsewhere.
pub only : Place → Parcel → Place → List Parcel
only q x r = elim (place_cases r q) [ inl e ↦ x ∷ [] | inr e ↦ [] ]

pub only_here : (q : Place) (x : Parcel) (r : Place) → r ≡ q → only q x r ≡ x ∷ []
unfolding only
only_here q x r e =
    elim (place_cases r q) as (λ k. ◌≡◌ {A = List Parcel} (elim k [ inl e ↦ x ∷ [] | inr e ↦ [] ]) (x ∷ [])) [
      | inl k ↦ refl
      | inr k ↦ absurd (k e)
    ]

pub only_else : (q : Place) (x : Parcel) (r : Place) → (r ≡ q → ⊥) → only q x r ≡ []
unfolding only
only_else q x r n =
    elim (place_cases r q) as (λ k. ◌≡◌ {A = List Parcel} (elim k [ inl e ↦ x ∷ [] | inr e ↦ [] ]) []) [
      | inl k ↦ absurd (n k)
      | inr k ↦ refl
    ]

abbrev pub nothing : Place → List Parcel
nothing r = []

-- From s to s' each place gives `outs` away at its front and gets `ins` at its end.
abbrev pub Changes : State Parcel → State Parcel → (Place → List Parcel) → (Place → List Parcel) → Type 0
Changes s s' outs ins = (r : Place) → inside s r ++ ins r ≡ outs r ++ inside s' r

pub changed : (s s' : State Parcel) (outs ins : Place → List Parcel) (xs ys : List Parcel) (r : Place) → Changes s s' outs ins
    → outs r ≡ xs → ins r ≡ ys → inside s r ++ ys ≡ xs ++ inside s' r
changed s s' outs ins xs ys r k a b =
    ap (λ (z : List Parcel). inside s r ++ z) (sym b) ∙ k r ∙ ap (λ (z : List Parcel). z ++ inside s' r) a

-- A grant of position p, which is the place q and holds x, to the slot (c, ℓ).
pub record Moves (g : Setup) (i : ℕ) (s s' : State Parcel) (c ℓ p : ℕ) (q : Place) (x : Parcel) : Type 0 where
  pub room : has_room s c ℓ ≡ true
  pub wins : granted bare (placed i) g s c ℓ ≡ Some p
  pub at : At g c ℓ p q
  pub rest : List Parcel
  pub first : inside s q ≡ x ∷ rest
  pub goes : Goes g q c x.packet
  pub apart : q ≡ riding c ℓ → ⊥
  pub changes : Changes s s' (only q x) (only (riding c ℓ) x)
  pub marked_here : s'.mark c ℓ ≡ after (position_count g.net c) p
  pub marked_else : (d m : ℕ) → (riding d m ≡ riding c ℓ → ⊥) → s'.mark d m ≡ s.mark d m

-- What the i-th call does to s.
pub data Did (g : Setup) (i : ℕ) (s : State Parcel) : Call → Event Parcel → State Parcel → Type 0 where
  refuses : (f : Call) (r : Refusal) → ((c ℓ : ℕ) → f ≡ serve c ℓ → c < count g.net → ℓ < g.lanes → ⊥) → Did g i s f (refused r) s
  takes : (p : Packet) (s' : State Parcel) → of_pair g p ≡ true → inside s (sending p.source (lane_for g p)) ≡ []
      → Changes s s' nothing (only (sending p.source (lane_for g p)) (placed i p)) → s'.mark ≡ s.mark
      → Did g i s (post p.source p.destination p.tag) (taken (placed i p)) s'
  gives : (c ℓ : ℕ) (x : Parcel) (rest : List Parcel) (s' : State Parcel)
      → inside s (riding c ℓ) ≡ x ∷ rest → x.packet.destination ≡ finish_of g.net c
      → Changes s s' (only (riding c ℓ) x) nothing → s'.mark ≡ s.mark → Did g i s (serve c ℓ) (delivered x) s'
  moves : (c ℓ p : ℕ) (q : Place) (x : Parcel) (s' : State Parcel) → Moves g i s s' c ℓ p q x → Did g i s (serve c ℓ) (moved p) s'
  stays : (c ℓ : ℕ) → has_room s c ℓ ≡ false
      → ((x : Parcel) (rest : List Parcel) → inside s (riding c ℓ) ≡ x ∷ rest → x.packet.destination ≡ finish_of g.net c → ⊥)
      → Did g i s (serve c ℓ) waits s
  rests : (c ℓ : ℕ) → has_room s c ℓ ≡ true → granted bare (placed i) g s c ℓ ≡ None → Did g i s (serve c ℓ) idle s

module _ (g : Setup) (c : ℕ) (p : Packet) where
  abbrev u : ℕ
  u = start_of g.net c

  named : (o : Option ℕ) → names o c ≡ true → o ≡ Some c
  named None h = absurd (false≢true h)
  named (Some x) h = ap (λ (z : ℕ). Some z) (eqb-true x c h)

  wants_parts : wants g c u (Some p) ≡ true → (p.destination ≡ u → ⊥) × (next_of g u p ≡ Some c)
  wants_parts h =
      let a = and_parts (not (eqb p.destination u)) (names (next_of g u p) c) h in
      (eqb-false p.destination u (not-true (eqb p.destination u) a.0), named (next_of g u p) a.1)

  wanted : (p.destination ≡ u → ⊥) → next_of g u p ≡ Some c → wants g c u (Some p) ≡ true
  wanted ne e =
      and_from (not (eqb p.destination u)) (names (next_of g u p) c)
      (not_from_false (eqb p.destination u) (ne_eqb p.destination u ne))
      (ap (λ (o : Option ℕ). names o c) e ∙ eq-eqb c c refl)

module _ (g : Setup) (i : ℕ) (s : State Parcel) (c ℓ : ℕ) where
  abbrev start : ℕ
  start = start_of g.net c

  held_first : (pos : Position) → first_of (inside s (spot start ℓ pos)) ≡ held_at s start ℓ (Some pos)
  held_first sender = ap first_of (inside_sender s start ℓ) ∙ first_listed (s.sender start ℓ)
  held_first (over b) = front_first s b ℓ

  pub contending : (p : ℕ) (q : Place) (x : Parcel) (rest : List Parcel) → At g c ℓ p q → inside s q ≡ x ∷ rest → Goes g q c x.packet
      → contends bare (placed i) g s c ℓ p ≡ true
  contending p q x rest a e go =
      let z = (at_ends g c ℓ p q a).0 in
      let h : held_at s start ℓ (position_at g.net c p) ≡ Some x =
      ap (held_at s start ℓ) a.1 ∙ sym (held_first a.0) ∙ ap (λ (r : Place). first_of (inside s r)) a.2 ∙ ap first_of e in
      ap (λ (o : Option Parcel). wants g c start (option_map bare o)) h
      ∙ wanted g c x.packet (λ w. go.0 (w ∙ sym z)) (ap (λ (v : ℕ). next_of g v x.packet) (sym z) ∙ go.1)

  abbrev Contender : ℕ → Type 0
  Contender p = (pos : Position) × (x : Parcel) × (rest : List Parcel) × (position_at g.net c p ≡ Some pos)
      × (inside s (spot start ℓ pos) ≡ x ∷ rest) × Goes g (spot start ℓ pos) c x.packet

  contender : (p : ℕ) → contends bare (placed i) g s c ℓ p ≡ true → Contender p
  contender p h = go (position_at g.net c p) refl h
    where
      held : (pos : Position) → position_at g.net c p ≡ Some pos → (xs : List Parcel) → inside s (spot start ℓ pos) ≡ xs
          → wants g c start (option_map bare (first_of xs)) ≡ true → Contender p
      held pos e [] k h = absurd (false≢true h)
      held pos e (x ∷ rest) k h =
          let w = wants_parts g c x.packet h in
          let z = (at_ends g c ℓ p (spot start ℓ pos) (pos, e, refl)).0 in
          (pos, x, rest, e, k, ((λ y. w.0 (y ∙ z)), ap (λ (v : ℕ). next_of g v x.packet) z ∙ w.1))

      go : (o : Option Position) → position_at g.net c p ≡ o → wants g c start (option_map bare (held_at s start ℓ o)) ≡ true → Contender p
      go None e h = absurd (false≢true h)
      go (Some pos) e h =
          held pos e (inside s (spot start ℓ pos)) refl
          (ap (λ (o : Option Parcel). wants g c start (option_map bare o)) (held_first pos) ∙ h)

module _ (s s' : State Parcel) (q : Place) (x : Parcel) (others : (r : Place) → (r ≡ q → ⊥) → inside s' r ≡ inside s r) where
  goes_out : inside s q ≡ x ∷ inside s' q → Changes s s' (only q x) nothing
  goes_out here r = append-nil (inside s r) ∙ elim (place_cases r q) [
    | inl e ↦
        ap (inside s) e ∙ here ∙ ap (λ (w : Place). x ∷ inside s' w) (sym e)
        ∙ ap (λ (z : List Parcel). z ++ inside s' r) (sym (only_here q x r e))
    | inr n ↦ sym (others r n) ∙ ap (λ (z : List Parcel). z ++ inside s' r) (sym (only_else q x r n))
  ]

  comes_in : inside s' q ≡ inside s q ++ (x ∷ []) → Changes s s' nothing (only q x)
  comes_in here r = elim (place_cases r q) [
    | inl e ↦
        ap (λ (z : List Parcel). inside s r ++ z) (only_here q x r e)
        ∙ ap (λ (w : Place). inside s w ++ (x ∷ [])) e ∙ sym here ∙ ap (inside s') (sym e)
    | inr n ↦ ap (λ (z : List Parcel). inside s r ++ z) (only_else q x r n) ∙ append-nil (inside s r) ∙ sym (others r n)
  ]

out_and_in : (s m s' : State Parcel) (outs ins : Place → List Parcel) → Changes s m outs nothing → Changes m s' nothing ins
    → Changes s s' outs ins
out_and_in s m s' outs ins a b r =
    ap (λ (z : List Parcel). z ++ ins r) (sym (append-nil (inside s r)) ∙ a r) ∙ append_assoc (outs r) (inside m r) (ins r)
    ∙ ap (λ (z : List Parcel). outs r ++ z) (b r)

module _ (s : State Parcel) (u ℓ : ℕ) where
  cleared_out : (pos : Position) (x : Parcel) (rest : List Parcel) → inside s (spot u ℓ pos) ≡ x ∷ rest
      → Changes s (cleared s u ℓ (Some pos)) (only (spot u ℓ pos) x) nothing
  cleared_out sender x rest e =
      goes_out s (with_sender s u ℓ None) (sending u ℓ) x (sender_else s u ℓ None)
      (sender_taken_lem s u ℓ x rest e)
  cleared_out (over b) x rest e =
      goes_out s (with_taken s b ℓ) (riding b ℓ) x (taken_else s b ℓ) (taken_here s b ℓ x (sym (front_first s b ℓ) ∙ ap first_of e))

  cleared_mark : (pos : Position) → (cleared s u ℓ (Some pos)).mark ≡ s.mark
  cleared_mark sender = sender_mark s u ℓ None
  cleared_mark (over b) = taken_mark s b ℓ

module _ (g : Setup) (i : ℕ) (s : State Parcel) (c ℓ : ℕ) where
  abbrev from : ℕ
  from = start_of g.net c

  moved_did : has_room s c ℓ ≡ true → (p : ℕ) → granted bare (placed i) g s c ℓ ≡ Some p
      → Did g i s (serve c ℓ) (moved p) (advanced bare (placed i) g s c ℓ p)
  moved_did room p e =
      let n = position_count g.net c in
      let k = contender g i s c ℓ p (found_passes n n (s.mark c ℓ) p (contends bare (placed i) g s c ℓ) e) in
      let pos = k.0 in
      let x = k.1 in
      let q : Place = spot from ℓ pos in
      let m : State Parcel = cleared s from ℓ (Some pos) in
      let s₁ : State Parcel = with_put m c ℓ (Some x) in
      let t : ℕ = after n p in
      let s' : State Parcel = with_mark s₁ c ℓ t in
      let held : held_at s from ℓ (position_at g.net c p) ≡ Some x =
      ap (held_at s from ℓ) k.3 ∙ sym (held_first g i s c ℓ pos) ∙ ap first_of k.4 in
      let is : s' ≡ advanced bare (placed i) g s c ℓ p =
      ap (λ (o : Option Position). with_mark (with_put (cleared s from ℓ o) c ℓ (Some x)) c ℓ t) (sym k.3)
      ∙ ap (λ (o : Option Parcel). with_mark (with_put (cleared s from ℓ (position_at g.net c p)) c ℓ o) c ℓ t) (sym held) in
      let ne : q ≡ riding c ℓ → ⊥ = λ z. nil_cons x k.2 (sym (room_none s c ℓ room) ∙ ap (inside s) (sym z) ∙ k.4) in
      let out = cleared_out s from ℓ pos x k.2 k.4 in
      let same : inside s (riding c ℓ) ++ [] ≡ inside m (riding c ℓ) =
      changed s m (only q x) nothing [] [] (riding c ℓ) out (only_else q x (riding c ℓ) (λ z. ne (sym z))) refl in
      let into : Changes m s' nothing (only (riding c ℓ) x) =
      comes_in m s' (riding c ℓ) x (λ r n. marked s₁ c ℓ t r ∙ put_else m c ℓ x r n)
      (marked s₁ c ℓ t (riding c ℓ)
      ∙ put_here m c ℓ x (none_room m c ℓ (sym same ∙ append-nil (inside s (riding c ℓ)) ∙ room_none s c ℓ room))) in
      subst (λ (z : State Parcel). Did g i s (serve c ℓ) (moved p) z) is
      (moves c ℓ p q x s' (record {
        room = room;
        wins = e;
        at = (pos, k.3, refl);
        rest = k.2;
        first = k.4;
        goes = k.5;
        apart = ne;
        changes = out_and_in s m s' (only q x) (only (riding c ℓ) x) out into;
        marked_here = mark_here s₁ c ℓ t;
        marked_else = λ d n ne'. mark_else s₁ c ℓ t d n ne'
            ∙ ap (λ (f : ℕ → ℕ → ℕ). f d n) (put_mark m c ℓ (Some x) ∙ cleared_mark s from ℓ pos);
      }))

  abbrev Served : Step Parcel → Type 0
  Served t = Did g i s (serve c ℓ) t.event t.state

  granted_did : has_room s c ℓ ≡ true → (o : Option ℕ) → granted bare (placed i) g s c ℓ ≡ o
      → Served (grant bare (placed i) g s c ℓ o)
  granted_did room None e = rests c ℓ room e
  granted_did room (Some p) e = moved_did room p e

  arrived_some : (o : Option Parcel) (x : Parcel) → arrived bare (placed i) g c o ≡ Some x
      → (o ≡ Some x) × (x.packet.destination ≡ finish_of g.net c)
  arrived_some None x e = none_some x e
  arrived_some (Some y) x e = go (eqb y.packet.destination (finish_of g.net c)) refl e
    where
      go : (b : Bool) → eqb y.packet.destination (finish_of g.net c) ≡ b → cond b (Some y) None ≡ Some x
          → (Some y ≡ Some x) × (x.packet.destination ≡ finish_of g.net c)
      go true h e =
          let z : y ≡ x = cc in
          (e, ap (λ (w : Parcel). w.packet.destination) (sym z) ∙ eqb-true y.packet.destination (finish_of g.net c) h)
      go false h e = none_some x e

  arrived_none : (x : Parcel) → x.packet.destination ≡ finish_of g.net c → arrived bare (placed i) g c (Some x) ≡ Some x
  arrived_none x h = ap (λ (b : Bool). cond b (Some x) None) (eq-eqb x.packet.destination (finish_of g.net c) h)

  served_did : (o : Option Parcel) → arrived bare (placed i) g c (front s c ℓ) ≡ o
      → Served (served bare (placed i) g s c ℓ o)
  served_did (Some x) e =
      let a = arrived_some (front s c ℓ) x e in
      let h = taken_here s c ℓ x a.0 in
      gives c ℓ x (inside (with_taken s c ℓ) (riding c ℓ)) (with_taken s c ℓ) h a.1
      (goes_out s (with_taken s c ℓ) (riding c ℓ) x (taken_else s c ℓ) h) (taken_mark s c ℓ)
  served_did None e = go (has_room s c ℓ) refl
    where
      go : (b : Bool) → has_room s c ℓ ≡ b
          → Served (cond b (grant bare (placed i) g s c ℓ (granted bare (placed i) g s c ℓ)) (run.did waits s))
      go true h = granted_did h (granted bare (placed i) g s c ℓ) refl
      go false h = stays c ℓ h (λ x rest k z.
          none_some x (sym e ∙ ap (arrived bare (placed i) g c) (sym (front_first s c ℓ) ∙ ap first_of k) ∙ arrived_none x z))

  did_serve : Served (serve_step bare (placed i) g s c ℓ)
  did_serve = go (ltb c (count g.net) && ltb ℓ g.lanes) refl
    where
      go : (b : Bool) → (ltb c (count g.net) && ltb ℓ g.lanes) ≡ b
          → Served (cond b (served bare (placed i) g s c ℓ (arrived bare (placed i) g c (front s c ℓ))) (run.did (refused missing_number) s))
      go true h = served_did (arrived bare (placed i) g c (front s c ℓ)) refl
      go false h = refuses (serve c ℓ) missing_number (λ d m e dn mn.
          let dc : d ≡ c = cc in
          let ml : m ≡ ℓ = cc in
          both_ways (ltb c (count g.net) && ltb ℓ g.lanes) h
          (and_from (ltb c (count g.net)) (ltb ℓ g.lanes)
          (lt-ltb c (count g.net) (rw dc at dn)) (lt-ltb ℓ g.lanes (rw ml at mn))))

module _ (g : Setup) (i : ℕ) (s : State Parcel) (p : Packet) where
  abbrev ℓ : ℕ
  ℓ = lane_for g p

  abbrev Posted : Step Parcel → Type 0
  Posted t = Did g i s (post p.source p.destination p.tag) t.event t.state

  unserved : (r : Refusal) → Posted (run.did (refused r) s)
  unserved r = refuses (post p.source p.destination p.tag) r (λ c m e _ _. let z : ◌≡◌ {A = ℕ} 0 1 = cc in omega arith)

  sent_did : of_pair g p ≡ true → (o : Option Parcel) → s.sender p.source ℓ ≡ o → Posted (sent bare (placed i) g s p o)
  sent_did a (Some x) e = unserved sender_taken
  sent_did a None e =
      let o : Option Parcel = Some (placed i p) in
      let none = inside_sender s p.source ℓ ∙ ap listed e in
      takes p (with_sender s p.source ℓ o) a none
      (comes_in s (with_sender s p.source ℓ o) (sending p.source ℓ) (placed i p) (sender_else s p.source ℓ o)
      (sender_here s p.source ℓ o ∙ ap (λ (z : List Parcel). z ++ (placed i p ∷ [])) (sym none)))
      (sender_mark s p.source ℓ o)

  did_post : Posted (post_step bare (placed i) g s p)
  did_post = go (of_pair g p) refl (ltb ℓ g.lanes)
    where
      go : (b : Bool) → of_pair g p ≡ b → (n : Bool)
          → Posted (cond b (cond n (sent bare (placed i) g s p (s.sender p.source ℓ))
          (run.did (refused (laneless_pair p.source p.destination)) s)) (run.did (refused missing_number) s))
      go true h true = sent_did h (s.sender p.source ℓ) refl
      go true h false = unserved (laneless_pair p.source p.destination)
      go false h n = unserved missing_number

pub did : (g : Setup) (i : ℕ) (s : State Parcel) (f : Call) → Did g i s f (step_at g i s f).event (step_at g i s f).state
did g i s (post a b t) = did_post g i s (record { source = a; destination = b; tag = t })
did g i s (serve c ℓ) = did_serve g i s c ℓ
