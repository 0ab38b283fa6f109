-- In motion: while a parcel is under way, some serve moves or delivers.
use Rattle.std.proofs.Common.{◌≡◌, ℕ, zero, suc, ◌<◌, true, List, [], ◌∷◌, ◌++◌, length, sym, refl, ap, ◌∙◌, inl, inr}
use Rattle.model.specs.Net.{count}
use Rattle.model.specs.Rules.{Setup}
use Rattle.model.specs.Routes.{lane_deps, depends}
use Rattle.model.specs.Verdicts.{Accepts}
use Rattle.model.specs.Packets.{Packet, Parcel, bare, Call, serve, Event, said}
use Rattle.model.specs.State.{State, listed}
use Rattle.model.specs.History.{step_at, state_after, reply}
use Rattle.model.specs.Promise.{on_channel, at_sender, Stirs, InMotion}
use Rattle.model.proofs.Dependencies.{pair_parts, deps_inside}
use Rattle.model.proofs.Ordering.{Short, ways_end}
use Rattle.model.proofs.Judging.{accepted_completes}
use Rattle.model.proofs.Contents.{Place, sending, riding, inside, inside_slot, inside_sender, room_cases}
use Rattle.model.proofs.Doing.{lane_at, did}
use Rattle.model.proofs.Fitting.{Fits, fits_end, fits_sending, fits_depends, fits_laned, sound}
use Rattle.model.proofs.Waiting.{First, bound, waits_now, serve_moves, last}

-- Every chain of dependencies ends.
pub chains_end : (g : Setup) → Accepts g → (ℓ c : ℕ) → ℓ < g.lanes → c < count g.net
    → Short (lane_deps g.net g.rule ℓ) (count g.net) c
chains_end g acc ℓ c ln cn =
    ways_end (count g.net) (lane_deps g.net g.rule ℓ) (accepted_completes g acc ℓ ln) (deps_inside g.net g.rule ℓ) c cn

-- A parcel in a sender slot has a channel ahead.
pub sender_ahead : {P : Type 0} (g : Setup) (u ℓ : ℕ) (p : Packet) → Fits g (sending u ℓ) p [] → P
sender_ahead g u ℓ p f =
    absurd ((pair_parts g.net.switches p.source p.destination f.pair).2
    (fits_sending g u ℓ p [] f ∙ sym (fits_end g (sending u ℓ) p f)))

first_of : {A : Type 0} (xs before : List A) (x : A) (after : List A) → xs ≡ before ++ (x ∷ after)
    → (y : A) × (rest : List A) × (xs ≡ y ∷ rest)
first_of xs [] x after e = (x, after, e)
first_of xs (b ∷ bs) x after e = (b, bs ++ (x ∷ after), e)

module _ (g : Setup) (acc : Accepts g) (h : List Call) where
  abbrev s : State Parcel
  s = state_after g h

  abbrev Motion : Type 0
  Motion = (c : ℕ) × (ℓ : ℕ) × Stirs (reply g h (serve c ℓ))

  -- What goes on by c: c has room and its serve moves, or c holds a parcel.
  goes_on : (q : Place) (x : Parcel) (c : ℕ) (ds : List ℕ) → Fits g q x.packet (c ∷ ds) → First s q x
      → ((y : Parcel) → First s (riding c (lane_at q)) y → Motion) → Motion
  goes_on q x c ds f e k = elim (room_cases s c (lane_at q)) [
    | inl r ↦
        let b = bound g acc q x c ds f in
        let w = waits_now g c (lane_at q) b.0 q x b.1 s (sound g acc h) e in
        let call = serve c (lane_at q) in
        let t = step_at g (length h) s call in
        let d = did g (length h) s call in
        let m = serve_moves g c (lane_at q) b.0 q x b.1 (length h) s t.state call t.event w.0 d w.1 refl r.0 in
        (c, lane_at q, inr (m.0, ap (λ (v : Event Parcel). said bare v) m.1))
    | inr r ↦ k r.0 ([], r.2)
  ]

  slot_step : (c ℓ : ℕ) (x : Parcel) (ds : List ℕ) → Fits g (riding c ℓ) x.packet ds → First s (riding c ℓ) x
      → ((d : ℕ) → depends g.net g.rule ℓ c d ≡ true → (y : Parcel) → First s (riding d ℓ) y → Motion) → Motion
  slot_step c ℓ x [] f e k =
      let call = serve c ℓ in
      let t = step_at g (length h) s call in
      let ln = fits_laned g acc (riding c ℓ) x.packet [] f in
      let d = did g (length h) s call in
      elim (last g c ℓ x (f.there c ℓ refl) ln (fits_end g (riding c ℓ) x.packet f) (length h) s t.state call t.event d e) [
        | inl r ↦ (c, ℓ, inl (x.packet, ap (λ (v : Event Parcel). said bare v) r.0))
        | inr r ↦ absurd (r.1 refl)
      ]
  slot_step c ℓ x (d ∷ ds) f e k = goes_on (riding c ℓ) x d ds f e (k d (fits_depends g c ℓ d x.packet ds f))

  on_slot : (n c ℓ : ℕ) (x : Parcel) → Short (lane_deps g.net g.rule ℓ) n c → First s (riding c ℓ) x → Motion
  on_slot zero c ℓ x sh e =
      let f = (sound g acc h).fits (riding c ℓ) x ([], e.0, e.1) in
      slot_step c ℓ x f.0 f.1 e (λ d k y _. absurd (sh d k))
  on_slot (suc n) c ℓ x sh e =
      let f = (sound g acc h).fits (riding c ℓ) x ([], e.0, e.1) in
      slot_step c ℓ x f.0 f.1 e (λ d k y. on_slot n d ℓ y (sh d k))

  slot_moves : (c ℓ : ℕ) (x : Parcel) → First s (riding c ℓ) x → Motion
  slot_moves c ℓ x e =
      let f = (sound g acc h).fits (riding c ℓ) x ([], e.0, e.1) in
      let ln = fits_laned g acc (riding c ℓ) x.packet f.0 f.1 in
      on_slot (count g.net) c ℓ x (chains_end g acc ℓ c ln (f.1.there c ℓ refl)) e

  sender_moves : (u ℓ : ℕ) (x : Parcel) (ds : List ℕ) → Fits g (sending u ℓ) x.packet ds → First s (sending u ℓ) x → Motion
  sender_moves u ℓ x [] f e = sender_ahead g u ℓ x.packet f
  sender_moves u ℓ x (c ∷ ds) f e = goes_on (sending u ℓ) x c ds f e (slot_moves c ℓ)

  pub in_motion : InMotion g h
  in_motion x (on_channel c ℓ before after e) =
      let y = first_of (inside s (riding c ℓ)) before x after (inside_slot s c ℓ ∙ e) in
      slot_moves c ℓ y.0 (y.1, y.2)
  in_motion x (at_sender u ℓ e) =
      let i : First s (sending u ℓ) x = ([], inside_sender s u ℓ ∙ ap listed e) in
      let f = (sound g acc h).fits (sending u ℓ) x ([], i.0, i.1) in
      sender_moves u ℓ x f.0 f.1 i
