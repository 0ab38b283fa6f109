-- Where parcels stand: each on its route, in its lane, and every turn mark in its range. Every call keeps it so.
use Rattle.std.proofs.Common.{◌≡◌, ℕ, suc, ◌<◌, true, eqb, ◌⊎◌, List, [], ◌∷◌, ◌++◌, Some, sym, refl, ap, ◌∙◌, subst, inl, inr, append_assoc, arith}
use Rattle.std.proofs.lemmas.List.{append_cancel_right}
use Rattle.model.specs.Lists.{is_in}
use Rattle.model.specs.Net.{Net, count, start_of, finish_of}
use Rattle.model.specs.Positions.{position_count}
use Rattle.model.specs.Rules.{Rule, Setup}
use Rattle.model.specs.Routes.{Way, home, onto, depends}
use Rattle.model.specs.Verdicts.{Accepts}
use Rattle.model.specs.Packets.{Packet, Parcel, placed, Call, Event}
use Rattle.model.specs.State.{State, empty, listed}
use Rattle.model.specs.Run.{lane_for}
use Rattle.model.specs.History.{step_at, state_from, state_after}
use Rattle.model.specs.Promise.{way_of, of_pair, InPlace}
use Rattle.model.proofs.Members.{is_in_here, any_right}
use Rattle.model.proofs.Dependencies.{depends_from}
use Rattle.model.proofs.Arriving.{route_way, way_same}
use Rattle.model.proofs.Contents.{Place, sending, riding, place_cases, nil_cons, inside, inside_slot, inside_sender, inside_empty}
use Rattle.model.proofs.Turning.{after_below}
use Rattle.model.proofs.Feeding.{position_below}
use Rattle.model.proofs.Doing.{lane_at, switch_at, Goes, at_ends, only, only_here, only_else, Changes, Did, refuses, takes, gives, moves, stays, rests, did}

-- A way at its end, and a way that goes on.
way_end : (net : Net) (rule : Rule) (d u : ℕ) → Way net rule d u [] → d ≡ u
way_end net rule d u home = refl

way_step : (net : Net) (rule : Rule) (d u c : ℕ) (cs : List ℕ) → Way net rule d u (c ∷ cs)
    → (d ≡ u → ⊥) × (rule.next u d ≡ Some c) × (c < count net) × (start_of net c ≡ u) × Way net rule d (finish_of net c) cs
way_step net rule d u c cs (onto ne e lt st w) = ((λ z. ne (sym z)), e, lt, st, w)

-- The place in lane ℓ after these channels.
abbrev seat : ℕ → Place → List ℕ → Place
seat ℓ q [] = q
seat ℓ q (c ∷ cs) = seat ℓ (riding c ℓ) cs

seat_lane : (ℓ : ℕ) (q : Place) (cs : List ℕ) → lane_at q ≡ ℓ → lane_at (seat ℓ q cs) ≡ ℓ
seat_lane ℓ q [] e = e
seat_lane ℓ q (c ∷ cs) e = seat_lane ℓ (riding c ℓ) cs refl

seat_push : (ℓ c : ℕ) (q : Place) (cs : List ℕ) → seat ℓ q (cs ++ (c ∷ [])) ≡ riding c ℓ
seat_push ℓ c q [] = refl
seat_push ℓ c q (d ∷ cs) = seat_push ℓ c (riding d ℓ) cs

riding_sending : {P : Type 0} (c ℓ u m : ℕ) → riding c ℓ ≡ sending u m → P
riding_sending c ℓ u m e = let z : ◌≡◌ {A = ℕ} 0 1 = cc in absurd (omega arith)

last_cases : (cs : List ℕ) → (cs ≡ []) ⊎ ((ds : List ℕ) × (c : ℕ) × (cs ≡ ds ++ (c ∷ [])))
last_cases [] = inl refl
last_cases (c ∷ cs) = inr (elim (last_cases cs) [
  | inl e ↦ ([], c, ap (λ (z : List ℕ). c ∷ z) e)
  | inr h ↦ (c ∷ h.0, h.1, ap (λ (z : List ℕ). c ∷ z) h.2)
])

-- The packet p may stand at q with these channels ahead: q is on its route and in its lane.
pub record Fits (g : Setup) (q : Place) (p : Packet) (ahead : List ℕ) : Type 0 where
  pub pair : of_pair g p ≡ true
  pub behind : List ℕ
  pub way : way_of g p ≡ behind ++ ahead
  pub here : seat (lane_for g p) (sending p.source (lane_for g p)) behind ≡ q
  pub goes : Way g.net g.rule p.destination (switch_at g.net q) ahead
  pub there : (c ℓ : ℕ) → q ≡ riding c ℓ → c < count g.net

module _ (g : Setup) where
  pub fits_start : Accepts g → (p : Packet) → of_pair g p ≡ true → Fits g (sending p.source (lane_for g p)) p (way_of g p)
  fits_start acc p h = record {
    pair = h;
    behind = [];
    way = refl;
    here = refl;
    goes = route_way g.net g.rule p.source p.destination (acc.arrive p.source p.destination h);
    there = λ c ℓ e. riding_sending c ℓ p.source (lane_for g p) (sym e);
  }

  module _ (q : Place) (p : Packet) where
    pub fits_lane : (ds : List ℕ) → Fits g q p ds → lane_for g p ≡ lane_at q
    fits_lane ds f = sym (seat_lane (lane_for g p) (sending p.source (lane_for g p)) f.behind refl) ∙ ap lane_at f.here

    pub fits_end : Fits g q p [] → p.destination ≡ switch_at g.net q
    fits_end f = way_end g.net g.rule p.destination (switch_at g.net q) f.goes

    -- One channel further on.
    pub fits_next : (c : ℕ) (ds : List ℕ) → Fits g q p (c ∷ ds)
        → Goes g q c p × (c < count g.net) × (start_of g.net c ≡ switch_at g.net q) × Fits g (riding c (lane_at q)) p ds
    fits_next c ds f =
        let w = way_step g.net g.rule p.destination (switch_at g.net q) c ds f.goes in (
          (w.0, w.1),
          w.2,
          w.3,
          record {
            pair = f.pair;
            behind = f.behind ++ (c ∷ []);
            way = f.way ∙ sym (append_assoc f.behind (c ∷ []) ds);
            here = seat_push (lane_for g p) c (sending p.source (lane_for g p)) f.behind ∙ ap (riding c) (fits_lane (c ∷ ds) f);
            goes = w.4;
            there = λ b m e. let z : b ≡ c = cc in subst (λ (y : ℕ). y < count g.net) (sym z) w.2;
          },
        )

    fits_goes : (c : ℕ) (ds : List ℕ) → Fits g q p ds → Goes g q c p → (es : List ℕ) × Fits g (riding c (lane_at q)) p es
    fits_goes c [] f go = absurd (go.0 (fits_end f))
    fits_goes c (d ∷ ds) f go =
        let n = fits_next d ds f in
        let e : Some d ≡ Some c = sym n.0.1 ∙ go.1 in
        let z : d ≡ c = cc in
        (ds, subst (λ (y : ℕ). Fits g (riding y (lane_at q)) p ds) z n.3)

  -- What stands on channel c, or in a sender slot.
  fits_riding : (c ℓ : ℕ) (p : Packet) (ds : List ℕ) → Fits g (riding c ℓ) p ds → (pre : List ℕ) × (way_of g p ≡ pre ++ (c ∷ ds))
  fits_riding c ℓ p ds f = elim (last_cases f.behind) [
    | inl e ↦
        riding_sending c ℓ p.source (lane_for g p) (sym f.here ∙ ap (seat (lane_for g p) (sending p.source (lane_for g p))) e)
    | inr h ↦
        let z : riding h.1 (lane_for g p) ≡ riding c ℓ =
        sym (seat_push (lane_for g p) h.1 (sending p.source (lane_for g p)) h.0)
        ∙ ap (seat (lane_for g p) (sending p.source (lane_for g p))) (sym h.2) ∙ f.here in
        let same : h.1 ≡ c = cc in (
          h.0,
          f.way ∙ ap (λ (cs : List ℕ). cs ++ ds) h.2 ∙ append_assoc h.0 (h.1 ∷ []) ds
              ∙ ap (λ (y : ℕ). h.0 ++ (y ∷ ds)) same,
        )
  ]

  pub fits_sending : (u ℓ : ℕ) (p : Packet) (ds : List ℕ) → Fits g (sending u ℓ) p ds → p.source ≡ u
  fits_sending u ℓ p ds f = elim (last_cases f.behind) [
    | inl e ↦ let z = ap (seat (lane_for g p) (sending p.source (lane_for g p))) (sym e) ∙ f.here in cc
    | inr h ↦ riding_sending h.1 (lane_for g p) u ℓ
        (sym (seat_push (lane_for g p) h.1 (sending p.source (lane_for g p)) h.0)
        ∙ ap (seat (lane_for g p) (sending p.source (lane_for g p))) (sym h.2) ∙ f.here)
  ]

  -- Two channels of a route, one directly after the other, are a dependency of its lane.
  pub fits_depends : (c ℓ d : ℕ) (p : Packet) (ds : List ℕ) → Fits g (riding c ℓ) p (d ∷ ds) → depends g.net g.rule ℓ c d ≡ true
  fits_depends c ℓ d p ds f =
      let w = fits_riding c ℓ p (d ∷ ds) f in
      subst (λ (m : ℕ). depends g.net g.rule m c d ≡ true) (fits_lane (riding c ℓ) p (d ∷ ds) f)
      (depends_from g.net g.rule p.source p.destination c d w.0 ds f.pair w.1)

  pub fits_laned : Accepts g → (q : Place) (p : Packet) (ds : List ℕ) → Fits g q p ds → lane_at q < g.lanes
  fits_laned acc q p ds f = subst (λ (m : ℕ). m < g.lanes) (fits_lane q p ds f) (acc.in_lane p.source p.destination f.pair)

  -- The places of a route are at different switches.
  pub fits_one : (q r : Place) (p p' : Packet) (ds es : List ℕ) → p.source ≡ p'.source → p.destination ≡ p'.destination
      → Fits g q p ds → Fits g r p' es → switch_at g.net q ≡ switch_at g.net r → q ≡ r
  fits_one q r p p' ds es ep ed f f' e =
      let same : ds ≡ es =
      way_same g.net g.rule p'.destination (switch_at g.net q) (switch_at g.net r) ds es
      (subst (λ (d : ℕ). Way g.net g.rule d (switch_at g.net q) ds) ed f.goes) f'.goes e in
      let ways : way_of g p ≡ way_of g p' = cc in
      let lanes : lane_for g p ≡ lane_for g p' = cc in
      let back : f.behind ≡ f'.behind =
      append_cancel_right f.behind f'.behind es (ap (λ (z : List ℕ). f.behind ++ z) (sym same) ∙ sym f.way ∙ ways ∙ f'.way) in
      let seats : seat (lane_for g p) (sending p.source (lane_for g p)) f.behind
      ≡ seat (lane_for g p') (sending p'.source (lane_for g p')) f'.behind = cc in
      sym f.here ∙ seats ∙ f'.here

-- x is among xs.
abbrev Has : List Parcel → Parcel → Type 0
Has xs x = (before : List Parcel) × (after : List Parcel) × (xs ≡ before ++ (x ∷ after))

has_split : (as' bs : List Parcel) (x : Parcel) (ps qs : List Parcel) → as' ++ bs ≡ ps ++ (x ∷ qs) → Has as' x ⊎ Has bs x
has_split [] bs x ps qs e = inr (ps, qs, e)
has_split (a ∷ as') bs x [] qs e = let z : a ≡ x = cc in inl ([], as', ap (λ (w : Parcel). w ∷ as') z)
has_split (a ∷ as') bs x (p ∷ ps) qs e =
    let z : a ≡ p = cc in
    let t : as' ++ bs ≡ ps ++ (x ∷ qs) = cc in
    elim (has_split as' bs x ps qs t) [
      | inl h ↦ inl (a ∷ h.0, h.1, ap (λ (w : List Parcel). a ∷ w) h.2)
      | inr h ↦ inr h
    ]

has_none : {P : Type 0} (x : Parcel) → Has [] x → P
has_none x ([], as', e) = nil_cons x as' e
has_none x (b ∷ bs, as', e) = nil_cons b (bs ++ (x ∷ as')) e

has_only : (q : Place) (x : Parcel) (r : Place) (y : Parcel) → Has (only q x r) y → (r ≡ q) × (y ≡ x)
has_only q x r y h = elim (place_cases r q) [
  | inl e ↦ (e, one h.0 h.1 (sym (only_here q x r e) ∙ h.2))
  | inr n ↦ has_none y (h.0, h.1, sym (only_else q x r n) ∙ h.2)
]
  where
    one : (ps qs : List Parcel) → x ∷ [] ≡ ps ++ (y ∷ qs) → y ≡ x
    one [] qs e = cc
    one (p ∷ ps) qs e = let t : [] ≡ ps ++ (y ∷ qs) = cc in has_none y (ps, qs, t)

changed_has : (s s' : State Parcel) (outs ins : Place → List Parcel) → Changes s s' outs ins → (r : Place) (x : Parcel)
    → Has (inside s' r) x → Has (inside s r) x ⊎ Has (ins r) x
changed_has s s' outs ins ch r x h =
    has_split (inside s r) (ins r) x (outs r ++ h.0) h.1
    (ch r ∙ ap (λ (z : List Parcel). outs r ++ z) h.2 ∙ sym (append_assoc (outs r) h.0 (x ∷ h.1)))

pub record Sound (g : Setup) (s : State Parcel) : Type 0 where
  pub fits : (q : Place) (x : Parcel) → Has (inside s q) x → (ds : List ℕ) × Fits g q x.packet ds
  pub turns : (c ℓ : ℕ) → (s.mark c ℓ ≡ 0) ⊎ (s.mark c ℓ < position_count g.net c)

module _ (g : Setup) (acc : Accepts g) where
  pub keeps_sound : (i : ℕ) (s s' : State Parcel) (f : Call) (e : Event Parcel) → Did g i s f e s' → Sound g s → Sound g s'
  keeps_sound i s s' f e (refuses _ _ _) I = I
  keeps_sound i s s' f e (takes p _ pair none ch mk) I = record {
    fits = λ q x h. elim (changed_has s s' (λ _. []) (only (sending p.source (lane_for g p)) (placed i p)) ch q x h) [
      | inl k ↦ I.fits q x k
      | inr k ↦ let o = has_only (sending p.source (lane_for g p)) (placed i p) q x k in
          let start = fits_start g acc p pair in (
            way_of g p,
            subst (λ (r : Place). Fits g r x.packet (way_of g p)) (sym o.0)
                (subst (λ (y : Parcel). Fits g (sending p.source (lane_for g p)) y.packet (way_of g p)) (sym o.1) start),
          )
    ];
    turns = subst (λ (m : ℕ → ℕ → ℕ). (c ℓ : ℕ) → (m c ℓ ≡ 0) ⊎ (m c ℓ < position_count g.net c)) (sym mk) I.turns;
  }
  keeps_sound i s s' f e (gives c ℓ y rest _ h end ch mk) I = record {
    fits = λ q x h. elim (changed_has s s' (only (riding c ℓ) y) (λ _. []) ch q x h) [ inl k ↦ I.fits q x k | inr k ↦ has_none x k ];
    turns = subst (λ (m : ℕ → ℕ → ℕ). (c ℓ : ℕ) → (m c ℓ ≡ 0) ⊎ (m c ℓ < position_count g.net c)) (sym mk) I.turns;
  }
  keeps_sound i s s' f e (moves c ℓ p r y _ M) I = record {
    fits = λ q x h. elim (changed_has s s' (only r y) (only (riding c ℓ) y) M.changes q x h) [
      | inl k ↦ I.fits q x k
      | inr k ↦
          let o = has_only (riding c ℓ) y q x k in
          let k = I.fits r y ([], M.rest, M.first) in
          let on = fits_goes g r y.packet c k.0 k.1 M.goes in
          let z : riding c (lane_at r) ≡ q = ap (riding c) (at_ends g c ℓ p r M.at).1 ∙ sym o.0 in (
            on.0,
            subst (λ (w : Parcel). Fits g q w.packet on.0) (sym o.1)
                (subst (λ (w : Place). Fits g w y.packet on.0) z on.1),
          )
    ];
    turns = λ d m. elim (place_cases (riding d m) (riding c ℓ)) [
      | inl z ↦
          let dc : d ≡ c = cc in
          let ml : m ≡ ℓ = cc in
          let below = after_below (position_count g.net c) p (position_below g.net c p M.at.0 M.at.1) in
          let P : ℕ → ℕ → Type 0 = λ d m. (s'.mark d m ≡ 0) ⊎ (s'.mark d m < position_count g.net d) in
          subst (λ (k : ℕ). P k m) (sym dc) (subst (λ (k : ℕ). P c k) (sym ml)
          (inr (subst (λ (k : ℕ). k < position_count g.net c) (sym M.marked_here) below)))
      | inr n ↦ subst (λ (k : ℕ). (k ≡ 0) ⊎ (k < position_count g.net d)) (sym (M.marked_else d m n)) (I.turns d m)
    ];
  }
  keeps_sound i s s' f e (stays _ _ _ _) I = I
  keeps_sound i s s' f e (rests _ _ _ _) I = I

  pub sound_empty : Sound g empty
  sound_empty = record {
    fits = λ q x h. has_none x (h.0, h.1, sym (inside_empty q) ∙ h.2);
    turns = λ c ℓ. inl refl;
  }

  sound_from : (h : List Call) (i : ℕ) (s : State Parcel) → Sound g s → Sound g (state_from g i s h)
  sound_from [] i s I = I
  sound_from (f ∷ h) i s I =
      let t = step_at g i s f in
      sound_from h (suc i) t.state (keeps_sound i s t.state f t.event (did g i s f) I)

  pub sound : (h : List Call) → Sound g (state_after g h)
  sound h = sound_from h 0 empty sound_empty

  pub in_place : (h : List Call) → InPlace g h
  in_place h = record {
    slots = λ c ℓ x before after e.
        let f = (sound h).fits (riding c ℓ) x (before, after, inside_slot (state_after g h) c ℓ ∙ e) in
        let w = fits_riding g c ℓ x.packet f.0 f.1 in (
          f.1.pair,
          subst (λ (cs : List ℕ). is_in c cs ≡ true) (sym w.1) (any_right (λ y. eqb c y) w.0 (c ∷ f.0) (is_in_here c f.0)),
          fits_lane g (riding c ℓ) x.packet f.0 f.1,
        );
    senders = λ u ℓ x e.
        let f = (sound h).fits (sending u ℓ) x ([], [], inside_sender (state_after g h) u ℓ ∙ ap listed e) in
        (f.1.pair, fits_sending g u ℓ x.packet f.0 f.1, fits_lane g (sending u ℓ) x.packet f.0 f.1);
  }
