-- In time: a lane of a run is a lane of the time argument, so what is under way is delivered in as many rounds as its patience.
use Rattle.std.proofs.Common.{◌≡◌, ℕ, zero, suc, ◌+◌, ◌-◌, ◌<◌, ◌≤◌, true, List, [], ◌∷◌, ◌++◌, length, take, drop, Some, sym, refl, ap, ◌∙◌, subst, inl, inr, append_assoc, arith, length-append}
use Rattle.std.proofs.lemmas.List.{get_or-append-add, get_or_at, take-append-drop, drop_more, length-take-le}
use Rattle.model.specs.Net.{count}
use Rattle.model.specs.Positions.{position_count}
use Rattle.model.specs.Rules.{Setup}
use Rattle.model.specs.Routes.{lane_deps, depends}
use Rattle.model.specs.Verdicts.{Accepts}
use Rattle.model.specs.Waits.{pass_cost, total, hold, patience}
use Rattle.model.specs.Packets.{Packet, Parcel, bare, placed, Call, post, serve, Event, delivered, says_taken, said}
use Rattle.model.specs.State.{State, empty, has_room, listed}
use Rattle.model.specs.Run.{lane_for}
use Rattle.model.specs.History.{step_at, state_after}
use Rattle.model.specs.Promise.{way_of, flat, Rounds, DeliversAmong, InTime, UnderWay, on_channel, at_sender}
use Rattle.model.proofs.Ordering.{Short}
use Rattle.model.proofs.Holding.{hold_exact_lem}
use Rattle.model.proofs.Contents.{Place, sending, riding, first_of, first_listed, nil_cons, inside, inside_slot, inside_sender, single, room_cases}
use Rattle.model.proofs.Histories.{state_onward, run_at, event_at, no_call, call_at, state_at, upto, upto_suc, upto_up, upto_all, call_flat}
use Rattle.model.proofs.Doing.{lane_at, only, only_here, nothing, changed, Did, refuses, takes, gives, moves, stays, rests, did}
use Rattle.model.proofs.Timing.{Lane, travels, begins}
use Rattle.model.proofs.Fitting.{Fits, fits_lane, fits_end, fits_next, fits_depends, fits_laned, Sound, keeps_sound, sound_empty, sound}
use Rattle.model.proofs.Waiting.{First, Bound, bound, Waits, waits_now, tick}
use Rattle.model.proofs.Waiting as waiting
use Rattle.model.proofs.Moving.{chains_end, sender_ahead}

shorter : (g : Setup) (ℓ m c d : ℕ) → Short (lane_deps g.net g.rule ℓ) m c → depends g.net g.rule ℓ c d ≡ true
    → (m' : ℕ) × (m' < m) × Short (lane_deps g.net g.rule ℓ) m' d
shorter g ℓ zero c d sh k = absurd (sh d k)
shorter g ℓ (suc m) c d sh k = (m, omega arith, sh d k)

module _ (g : Setup) (acc : Accepts g) (f : ℕ → Call) where
  sound_at : (t : ℕ) → Sound g (run_at g f t)
  sound_at zero = sound_empty g acc
  sound_at (suc t) = keeps_sound g acc t (run_at g f t) (run_at g f (suc t)) (f t) (event_at g f t) (did g t (run_at g f t) (f t)) (sound_at t)

  lane : (ℓ : ℕ) → ℓ < g.lanes → Lane Parcel Place (count g.net) (position_count g.net) (hold g ℓ)
  lane ℓ ln = record {
    slot = λ c. riding c ℓ;
    First = λ q x t. First (run_at g f t) q x;
    Room = λ c t. has_room (run_at g f t) c ℓ ≡ true;
    Serves = λ c t. f t ≡ serve c ℓ;
    Delivers = λ x t. event_at g f t ≡ delivered x;
    Awaits = λ q c x t e. (j : ℕ) × (B : Bound g c ℓ j q x) × Waits g c ℓ j q x B (run_at g f t) e;
    Ahead = λ c x ds. Fits g (riding c ℓ) x.packet ds;
    Leads = λ c d. (c < count g.net) × (depends g.net g.rule ℓ c d ≡ true);
    Ends = λ m c. Short (lane_deps g.net g.rule ℓ) m c;
    waiting = λ q c x t e w.
        elim (tick g c ℓ w.0 q x w.1 t (run_at g f t) (run_at g f (suc t)) (f t) (event_at g f t) e (did g t (run_at g f t) (f t)) w.2) [
          | inl v ↦ inl v
          | inr (inl v) ↦ inr (inl (v.0, v.1, (w.0, w.1, v.2)))
          | inr (inr v) ↦ inr (inr ((w.0, w.1, v.0), v.1))
        ];
    full = λ c t. elim (room_cases (run_at g f t) c ℓ) [
      | inl r ↦ inl r.0
      | inr r ↦ let k = (sound_at t).fits (riding c ℓ) r.0 ([], [], r.2) in inr (r.0, k.0, ([], r.2), k.1)
    ];
    last = λ c t x a h.
        waiting.last g c ℓ x (a.there c ℓ refl) ln (fits_end g (riding c ℓ) x.packet a)
        t (run_at g f t) (run_at g f (suc t)) (f t) (event_at g f t) (did g t (run_at g f t) (f t)) h;
    next = λ c d x ds a.
        let n = fits_next g (riding c ℓ) x.packet d ds a in
        let b = bound g acc (riding c ℓ) x d ds a in (
          (a.there c ℓ refl, fits_depends g c ℓ d x.packet ds a),
          n.1,
          n.3,
          λ t h.
              let w = waits_now g d ℓ b.0 (riding c ℓ) x b.1 (run_at g f t) (sound_at t) h in
              (w.0, w.1.1, (b.0, b.1, w.1)),
        );
    one = λ c cn. (hold_exact_lem g acc ℓ c ln cn).one;
    holds = λ c d k. (hold_exact_lem g acc ℓ c ln k.0).each d k.1;
    ends = λ c cn. (count g.net, chains_end g acc ℓ c ln cn);
    shorter = λ m c d sh k. shorter g ℓ m c d sh k.1;
  }

total_end : (f : ℕ → ℕ) (xs ys : List ℕ) → total f ys ≤ total f (xs ++ ys)
total_end f [] ys = omega arith
total_end f (x ∷ xs) ys = let k = total_end f xs ys in omega arith

-- Only a serve delivers.
delivers_serve : (g : Setup) (i : ℕ) (s s' : State Parcel) (f : Call) (v : Event Parcel) (x : Parcel) → Did g i s f v s' → v ≡ delivered x
    → (c : ℕ) × (ℓ : ℕ) × (f ≡ serve c ℓ)
delivers_serve g i s s' f v x (refuses _ _ _) e = let z : ◌≡◌ {A = ℕ} 0 1 = cc in absurd (omega arith)
delivers_serve g i s s' f v x (takes _ _ _ _ _ _) e = let z : ◌≡◌ {A = ℕ} 0 1 = cc in absurd (omega arith)
delivers_serve g i s s' f v x (gives c ℓ _ _ _ _ _ _ _) e = (c, ℓ, refl)
delivers_serve g i s s' f v x (moves c ℓ _ _ _ _ _) e = (c, ℓ, refl)
delivers_serve g i s s' f v x (stays c ℓ _ _) e = (c, ℓ, refl)
delivers_serve g i s s' f v x (rests c ℓ _ _) e = (c, ℓ, refl)

module _ (g : Setup) (acc : Accepts g) (h : List Call) (rounds : List (List Call)) (served : Rounds g rounds) where
  abbrev calls : List Call
  calls = flat rounds

  abbrev at : ℕ → Call
  at = call_at (h ++ calls)

  abbrev b : ℕ → ℕ
  b i = length h + upto rounds i

  climbs : (i j : ℕ) → i ≤ j → j ≤ length rounds → b i ≤ b j
  climbs i j ij _ = let k = upto_up rounds i j ij in omega arith

  serves : (ℓ : ℕ) → ℓ < g.lanes → (c : ℕ) → c < count g.net → (i : ℕ) → i < length rounds
      → (s : ℕ) × (b i ≤ s) × (s < b (suc i)) × (at s ≡ serve c ℓ)
  serves ℓ ln c cn i iR =
      let r = served i iR c ℓ cn ln in
      let j = length r.0 in
      let e = ap length r.2 in
      let len = length-append r.0 (serve c ℓ ∷ r.1) in
      let u = upto_suc rounds i iR in
      let z : length h + upto rounds i + j ≡ length h + (upto rounds i + j) = omega arith in (
        length h + upto rounds i + j,
        omega arith,
        omega arith,
        ap at z ∙ get_or-append-add h calls (upto rounds i + j) no_call ∙ call_flat rounds i j iR (omega arith)
            ∙ ap (λ (cs : List Call). call_at cs j) r.2 ∙ get_or_at r.0 (serve c ℓ) r.1 no_call j refl,
      )

  -- A delivery at time u is one by a serve among the calls.
  among : (x : Parcel) (u : ℕ) → length h ≤ u → u < b (length rounds) → event_at g at u ≡ delivered x → DeliversAmong g h calls x
  among x u lo hi e =
      let all = upto_all rounds in
      let j : ℕ = u - length h in
      let front : List Call = take j calls in
      let v = delivers_serve g u (run_at g at u) (run_at g at (suc u)) (at u) (event_at g at u) x (did g u (run_at g at u) (at u)) e in
      let c = v.0 in
      let ℓ = v.1 in
      let uj : u ≡ length h + j = omega arith in
      let call : call_at calls j ≡ serve c ℓ = sym (get_or-append-add h calls j no_call) ∙ ap at (sym uj) ∙ v.2 in
      let rest : drop j calls ≡ serve c ℓ ∷ drop (j + 1) calls =
      drop_more calls j no_call (omega arith) ∙ ap (λ (y : Call). y ∷ drop (j + 1) calls) call in
      let whole : (h ++ front) ++ drop j calls ≡ h ++ calls =
      append_assoc h front (drop j calls) ∙ ap (λ (cs : List Call). h ++ cs) (take-append-drop j calls) in
      let len : length (h ++ front) ≡ u = length-append h front ∙ (let k = length-take-le j calls (omega arith) in omega arith) in
      let state : state_after g (h ++ front) ≡ run_at g at u =
      state_at g (h ++ front) (drop j calls) ∙ ap (λ (cs : List Call). run_at g (call_at cs) (length (h ++ front))) whole
      ∙ ap (run_at g at) len in
      record {
        before = front;
        after = drop (j + 1) calls;
        channel = c;
        lane = ℓ;
        split = sym (take-append-drop j calls) ∙ ap (λ (cs : List Call). front ++ cs) rest;
        gives = ap (λ (n : ℕ). (step_at g n (state_after g (h ++ front)) (serve c ℓ)).event) len
            ∙ ap (λ (s : State Parcel). (step_at g u s (serve c ℓ)).event) state
            ∙ ap (λ (y : Call). (step_at g u (run_at g at u) y).event) (sym v.2) ∙ e;
      }

  abbrev cost : ℕ → List ℕ → ℕ
  cost ℓ ds = 1 + total (λ c. pass_cost (position_count g.net c) (hold g ℓ c)) ds

  -- What is still ahead costs at most the patience.
  ahead_cost : (q : Place) (p : Packet) (ds : List ℕ) → Fits g q p ds → length rounds ≡ patience g p.source p.destination
      → 0 + cost (lane_at q) ds ≤ length rounds
  ahead_cost q p ds f e =
      let ℓ = lane_at q in
      let k = total_end (λ c. pass_cost (position_count g.net c) (hold g ℓ c)) f.behind ds in
      let whole : patience g p.source p.destination ≡ cost ℓ (f.behind ++ ds) =
      ap (λ (m : ℕ). cost m (way_of g p)) (fits_lane g q p ds f) ∙ ap (cost ℓ) f.way in
      omega arith

  from_place : (q : Place) (x : Parcel) (ds : List ℕ) → Fits g q x.packet ds → First (run_at g at (length h)) q x
      → length rounds ≡ patience g x.packet.source x.packet.destination → DeliversAmong g h calls x
  unfolding lane
  from_place (riding c ℓ) x ds f i e =
      let ln = fits_laned g acc (riding c ℓ) x.packet ds f in
      let k = ahead_cost (riding c ℓ) x.packet ds f e in
      let L = lane g acc at ℓ ln in
      let v = travels L b (length rounds) climbs (serves ℓ ln) ds c x (length h) 0 f (f.there c ℓ refl) (omega arith) k i in
      let z = climbs (0 + cost ℓ ds) (length rounds) k (omega arith) in
      among x v.0 v.1 (omega arith) v.3
  from_place (sending u ℓ) x [] f i e = sender_ahead g u ℓ x.packet f
  from_place (sending u ℓ) x (c ∷ ds) f i e =
      let q = sending u ℓ in
      let ln = fits_laned g acc q x.packet (c ∷ ds) f in
      let k = ahead_cost q x.packet (c ∷ ds) f e in
      let n = fits_next g q x.packet c ds f in
      let w = bound g acc q x c ds f in
      let y = waits_now g c ℓ w.0 q x w.1 (run_at g at (length h)) (sound_at g acc at (length h)) i in
      let L = lane g acc at ℓ ln in
      let v = begins L b (length rounds) climbs (serves ℓ ln) ds q c x (length h) 0 n.3 n.1 (omega arith) k
      (y.0, y.1.1, (w.0, w.1, y.1)) in
      let z = climbs (0 + cost ℓ (c ∷ ds)) (length rounds) k (omega arith) in
      among x v.0 v.1 (omega arith) v.3

  alone : (s : State Parcel) (q : Place) (x : Parcel) (before after : List Parcel) → inside s q ≡ before ++ (x ∷ after) → First s q x
  alone s q x [] after e = (after, e)
  alone s q x (y ∷ ys) after e = more ys (single s q y (ys ++ (x ∷ after)) e)
    where
      more : (ys : List Parcel) → ys ++ (x ∷ after) ≡ [] → First s q x
      more [] e = nil_cons x after (sym e)
      more (z ∷ zs) e = nil_cons z (zs ++ (x ∷ after)) (sym e)

  -- What is under way is delivered in as many rounds as its pair's patience.
  pub on_in_time : (x : Parcel) → UnderWay (state_after g h) x → length rounds ≡ patience g x.packet.source x.packet.destination
      → DeliversAmong g h calls x
  on_in_time x w e = go w
    where
      place : (q : Place) (before after : List Parcel) → inside (state_after g h) q ≡ before ++ (x ∷ after) → DeliversAmong g h calls x
      place q before after i =
          let f = (sound g acc h).fits q x (before, after, i) in
          from_place q x f.0 f.1
          (subst (λ (s : State Parcel). First s q x) (state_at g h calls) (alone (state_after g h) q x before after i)) e

      go : UnderWay (state_after g h) x → DeliversAmong g h calls x
      go (on_channel c ℓ before after i) = place (riding c ℓ) before after (inside_slot (state_after g h) c ℓ ∙ i)
      go (at_sender u ℓ i) = place (sending u ℓ) [] [] (inside_sender (state_after g h) u ℓ ∙ ap listed i)

-- A post that was taken stands in its sender slot.
taken_in_lem : (g : Setup) (i : ℕ) (s s' : State Parcel) (f : Call) (v : Event Parcel) (p : Packet) → Did g i s f v s'
    → f ≡ post p.source p.destination p.tag → said bare v ≡ says_taken → s'.sender p.source (lane_for g p) ≡ Some (placed i p)
taken_in_lem g i s s' f v p (refuses _ _ _) e t = let z : ◌≡◌ {A = ℕ} 0 1 = cc in absurd (omega arith)
taken_in_lem g i s s' f v p (takes r _ _ none ch _) e t =
    let es : r.source ≡ p.source = cc in
    let ed : r.destination ≡ p.destination = cc in
    let et : r.tag ≡ p.tag = cc in
    let same : r ≡ p = λ k. record { source = es k; destination = ed k; tag = et k } in
    let q = sending r.source (lane_for g r) in
    let here = changed s s' nothing (only q (placed i r)) [] (placed i r ∷ []) q ch refl (only_here q (placed i r) q refl) in
    let is : inside s' q ≡ placed i r ∷ [] = sym here ∙ ap (λ (xs : List Parcel). xs ++ (placed i r ∷ [])) none in
    subst (λ (y : Packet). s'.sender y.source (lane_for g y) ≡ Some (placed i y)) same
    (sym (first_listed (s'.sender r.source (lane_for g r))) ∙ ap first_of (sym (inside_sender s' r.source (lane_for g r)) ∙ is))
taken_in_lem g i s s' f v p (gives _ _ _ _ _ _ _ _ _) e t = let z : ◌≡◌ {A = ℕ} 0 1 = cc in absurd (omega arith)
taken_in_lem g i s s' f v p (moves _ _ _ _ _ _ _) e t = let z : ◌≡◌ {A = ℕ} 0 1 = cc in absurd (omega arith)
taken_in_lem g i s s' f v p (stays _ _ _ _) e t = let z : ◌≡◌ {A = ℕ} 0 1 = cc in absurd (omega arith)
taken_in_lem g i s s' f v p (rests _ _ _ _) e t = let z : ◌≡◌ {A = ℕ} 0 1 = cc in absurd (omega arith)

pub in_time : (g : Setup) → Accepts g → (h : List Call) → InTime g h
in_time g acc h before rest rounds p e t n r =
    let call = post p.source p.destination p.tag in
    let i = length before in
    let s = state_after g before in
    let s' = (step_at g i s call).state in
    let is = taken_in_lem g i s s' call (step_at g i s call).event p (did g i s call) refl t in
    let state : s' ≡ state_after g (before ++ (call ∷ [])) = sym (state_onward g empty 0 i before (call ∷ []) (omega arith)) in
    on_in_time g acc (before ++ (call ∷ [])) rounds r (placed i p)
    (subst (λ (z : State Parcel). UnderWay z (placed i p)) state (at_sender p.source (lane_for g p) is)) n
