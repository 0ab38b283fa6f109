-- In order: each call keeps a pair's line; what it takes in comes last, and what it delivers was first.
use Rattle.std.proofs.Common.{◌≡◌, ℕ, suc, Bool, true, false, cond, ◌&&◌, eqb, ◌⊎◌, List, [], ◌∷◌, ◌++◌, Some, sym, refl, ap, ◌∙◌, inl, inr, append_assoc, append-nil, arith}
use Rattle.std.proofs.lemmas.Bool.{and_parts, eqb-true, cases_Bool}
use Rattle.model.specs.Lists.{keep}
use Rattle.model.specs.Net.{start_of, is_pair}
use Rattle.model.specs.Rules.{Setup}
use Rattle.model.specs.Routes.{route}
use Rattle.model.specs.Verdicts.{Accepts}
use Rattle.model.specs.Packets.{Packet, Parcel, placed, Call, Event}
use Rattle.model.specs.State.{State, empty, held_in}
use Rattle.model.specs.Run.{lane_for}
use Rattle.model.specs.History.{step_at, state_from, state_after, events_from, events_of}
use Rattle.model.specs.Promise.{taken_now, delivered_now, taken_in, delivered_in, along, standing, mine, InOrder}
use Rattle.model.proofs.Contents.{Place, sending, riding, place_cases, inside, inside_slot, inside_sender, inside_empty}
use Rattle.model.proofs.Doing.{lane_at, switch_at, at_ends, only, only_here, only_else, nothing, Changes, Did, refuses, takes, gives, moves, stays, rests, did}
use Rattle.model.proofs.Fitting.{Fits, fits_start, fits_end, fits_next, fits_one, Sound, keeps_sound, sound_empty}

keep_append : {A : Type 0} (f : A → Bool) (xs ys : List A) → keep f (xs ++ ys) ≡ keep f xs ++ keep f ys
keep_append {A} f [] ys = refl
keep_append {A} f (x ∷ xs) ys = go (keep_append f xs ys) (f x)
  where
    go : keep f (xs ++ ys) ≡ keep f xs ++ keep f ys → (b : Bool)
        → cond b (x ∷ keep f (xs ++ ys)) (keep f (xs ++ ys)) ≡ cond b (x ∷ keep f xs) (keep f xs) ++ keep f ys
    go ih true = ap (λ (z : List A). x ∷ z) ih
    go ih false = ih

-- What stands at q and on the channels ahead of it, from the last back.
abbrev line : State Parcel → Place → List ℕ → List Parcel
line s q [] = inside s q
line s q (c ∷ cs) = line s (riding c (lane_at q)) cs ++ inside s q

line_along : (s : State Parcel) (q : Place) (cs : List ℕ) → line s q cs ≡ along (λ c. held_in s c (lane_at q)) cs ++ inside s q
line_along s q [] = refl
line_along s q (c ∷ cs) =
    ap (λ (z : List Parcel). z ++ inside s q)
    (line_along s (riding c (lane_at q)) cs
    ∙ ap (λ (z : List Parcel). along (λ c. held_in s c (lane_at q)) cs ++ z) (inside_slot s c (lane_at q)))

line_empty : (q : Place) (cs : List ℕ) → line empty q cs ≡ []
line_empty q [] = inside_empty q
line_empty q (c ∷ cs) = ap (λ (z : List Parcel). z ++ inside empty q) (line_empty (riding c (lane_at q)) cs) ∙ inside_empty q

module _ (g : Setup) (a b : ℕ) where
  abbrev M : List Parcel → List Parcel
  M xs = mine a b xs

  abbrev own : Parcel → Bool
  own x = eqb x.packet.source a && eqb x.packet.destination b

  abbrev any : Packet
  any = record { source = a; destination = b; tag = 0 }

  mine_append : (xs ys : List Parcel) → M (xs ++ ys) ≡ M xs ++ M ys
  mine_append xs ys = keep_append own xs ys

  -- A parcel of the pair, or of another.
  mine_cases : (x : Parcel) → ((x.packet.source ≡ a) × (x.packet.destination ≡ b)) ⊎ (M (x ∷ []) ≡ [])
  mine_cases x = elim (cases_Bool (own x)) [
    | inl h ↦ let p = and_parts (eqb x.packet.source a) (eqb x.packet.destination b) h in
        inl (eqb-true x.packet.source a p.0, eqb-true x.packet.destination b p.1)
    | inr h ↦ inr (ap (λ (t : Bool). cond t (x ∷ []) []) h)
  ]

  mine_other : (q : Place) (x : Parcel) (r : Place) → M (x ∷ []) ≡ [] → M (only q x r) ≡ []
  mine_other q x r h = elim (place_cases r q) [ inl e ↦ ap M (only_here q x r e) ∙ h | inr n ↦ ap M (only_else q x r n) ]

  -- What a call does at the places of the pair: what leaves one comes to the next, and the last and the first show in the event.
  record Flows (s s' : State Parcel) (e : Event Parcel) : Type 0 where
    outs : Place → List Parcel
    ins : Place → List Parcel
    changes : Changes s s' outs ins
    hop : (q : Place) (c : ℕ) (cs : List ℕ) → Fits g q any (c ∷ cs) → M (outs q) ≡ M (ins (riding c (lane_at q)))
    end : (q : Place) → Fits g q any [] → M (outs q) ≡ M (delivered_now e)
    start : M (ins (sending a (lane_for g any))) ≡ M (taken_now e)

  place_kept : (s s' : State Parcel) (outs ins : Place → List Parcel) → Changes s s' outs ins → (q : Place)
      → M (inside s q) ++ M (ins q) ≡ M (outs q) ++ M (inside s' q)
  place_kept s s' outs ins ch q = sym (mine_append (inside s q) (ins q)) ∙ ap M (ch q) ∙ mine_append (outs q) (inside s' q)

  line_kept : (s s' : State Parcel) (e : Event Parcel) (k : Flows s s' e) (cs : List ℕ) (q : Place) → Fits g q any cs
      → M (line s q cs) ++ M (k.ins q) ≡ M (delivered_now e) ++ M (line s' q cs)
  line_kept s s' e k [] q f =
      place_kept s s' k.outs k.ins k.changes q ∙ ap (λ (y : List Parcel). y ++ M (inside s' q)) (k.end q f)
  line_kept s s' e k (c ∷ cs) q f =
      let r = riding c (lane_at q) in
      let ih = line_kept s s' e k cs r (fits_next g q any c cs f).3 in
      let A = line s r cs in
      let A' = line s' r cs in
      let B = inside s q in
      let B' = inside s' q in
      let D = M (delivered_now e) in
      ap (λ (y : List Parcel). y ++ M (k.ins q)) (mine_append A B)
      ∙ append_assoc (M A) (M B) (M (k.ins q))
      ∙ ap (λ (y : List Parcel). M A ++ y)
      (place_kept s s' k.outs k.ins k.changes q ∙ ap (λ (y : List Parcel). y ++ M B') (k.hop q c cs f))
      ∙ sym (append_assoc (M A) (M (k.ins r)) (M B'))
      ∙ ap (λ (y : List Parcel). y ++ M B') ih
      ∙ append_assoc D (M A') (M B')
      ∙ ap (λ (y : List Parcel). D ++ y) (sym (mine_append A' B'))

  still : (s : State Parcel) (e : Event Parcel) → delivered_now e ≡ [] → taken_now e ≡ [] → Flows s s e
  still s e d t = record {
    outs = nothing;
    ins = nothing;
    changes = λ r. append-nil (inside s r);
    hop = λ q c cs f. refl;
    end = λ q f. ap M (sym d);
    start = ap M (sym t);
  }

  module _ (i : ℕ) (s : State Parcel) (I : Sound g s) where
    flows : (s' : State Parcel) (f : Call) (e : Event Parcel) → Did g i s f e s' → Flows s s' e
    flows s' f e (refuses _ _ _) = still s e refl refl
    flows s' f e (takes p _ pair none ch mk) =
        let q = sending p.source (lane_for g p) in
        let x = placed i p in
        record {
          outs = nothing;
          ins = only q x;
          changes = ch;
          hop = λ r c cs f. ap M (sym (only_else q x (riding c (lane_at r)) (λ z. let y : ◌≡◌ {A = ℕ} 0 1 = cc in omega arith)));
          end = λ r f. refl;
          start = elim (mine_cases x) [
            | inl o ↦
                let es = o.0 in
                let ed = o.1 in
                ap M (only_here q x (sending a (lane_for g any)) cc)
            | inr o ↦ mine_other q x (sending a (lane_for g any)) o ∙ sym o
          ];
        }
    flows s' f e (gives c ℓ x rest _ h home ch mk) =
        let q = riding c ℓ in
        record {
          outs = only q x;
          ins = nothing;
          changes = ch;
          hop = λ r d cs f. elim (mine_cases x) [
            | inl o ↦ ap M (only_else q x r (λ z. (fits_next g r any d cs f).0.0 (sym o.1 ∙ home ∙ ap (switch_at g.net) (sym z))))
            | inr o ↦ mine_other q x r o
          ];
          end = λ r f. elim (mine_cases x) [
            | inl o ↦
                let k = I.fits q x ([], rest, h) in
                let one = fits_one g q r x.packet any k.0 [] o.0 o.1 k.1 f (sym home ∙ o.1 ∙ fits_end g r any f) in
                ap M (only_here q x r (sym one))
            | inr o ↦ mine_other q x r o ∙ sym o
          ];
          start = refl;
        }
    flows s' f e (moves c ℓ p q x _ m) =
        let ends = at_ends g c ℓ p q m.at in
        record {
          outs = only q x;
          ins = only (riding c ℓ) x;
          changes = m.changes;
          hop = λ r d cs f. elim (mine_cases x) [
            | inl o ↦ elim (place_cases r q) [
              | inl z ↦
                  let n = fits_next g r any d cs f in
                  let same : switch_at g.net r ≡ switch_at g.net q = ap (switch_at g.net) z in
                  let e₁ : Some d ≡ Some c =
                  sym n.0.1 ∙ ap (λ (u : ℕ). g.rule.next u b) same
                  ∙ ap (λ (v : ℕ). g.rule.next (switch_at g.net q) v) (sym o.1) ∙ m.goes.1 in
                  let dc : d ≡ c = cc in
                  let lanes : lane_at r ≡ ℓ = ap lane_at z ∙ ends.1 in
                  ap M (only_here q x r z) ∙ ap M (sym (only_here (riding c ℓ) x (riding d (lane_at r)) cc))
              | inr n ↦
                  ap M (only_else q x r n) ∙ ap M (sym (only_else (riding c ℓ) x (riding d (lane_at r)) (λ z.
                  let dc : c ≡ d = cc in
                  let k = I.fits q x ([], m.rest, m.first) in
                  n (sym (fits_one g q r x.packet any k.0 (d ∷ cs) o.0 o.1 k.1 f
                  (ends.0 ∙ ap (start_of g.net) dc ∙ (fits_next g r any d cs f).2))))))
            ]
            | inr o ↦ mine_other q x r o ∙ sym (mine_other (riding c ℓ) x (riding d (lane_at r)) o)
          ];
          end = λ r f. elim (mine_cases x) [
            | inl o ↦ ap M (only_else q x r (λ y. m.goes.0 (o.1 ∙ fits_end g r any f ∙ ap (switch_at g.net) y)))
            | inr o ↦ mine_other q x r o
          ];
          start = ap M (only_else (riding c ℓ) x (sending a (lane_for g any)) (λ z. let y : ◌≡◌ {A = ℕ} 0 1 = cc in omega arith));
        }
    flows s' f e (stays _ _ _ _) = still s e refl refl
    flows s' f e (rests _ _ _ _) = still s e refl refl

  module _ (acc : Accepts g) (pair : is_pair g.net.switches a b ≡ true) where
    abbrev U : State Parcel → List Parcel
    U s = line s (sending a (lane_for g any)) (route g.net g.rule a b)

    lines_kept : (h : List Call) (s : State Parcel) (i : ℕ) → Sound g s
        → M (U s) ++ M (taken_in (events_from g i s h)) ≡ M (delivered_in (events_from g i s h)) ++ M (U (state_from g i s h))
    lines_kept [] s i I = append-nil (M (U s))
    lines_kept (f ∷ h) s i I =
        let e = (step_at g i s f).event in
        let s' = (step_at g i s f).state in
        let k = flows i s I s' f e (did g i s f) in
        let t = taken_in (events_from g (suc i) s' h) in
        let d = delivered_in (events_from g (suc i) s' h) in
        let one : M (U s) ++ M (taken_now e) ≡ M (delivered_now e) ++ M (U s') =
        ap (λ (z : List Parcel). M (U s) ++ z) (sym k.start)
        ∙ line_kept s s' e k (route g.net g.rule a b) (sending a (lane_for g any)) (fits_start g acc any pair) in
        let rest = lines_kept h s' (suc i) (keeps_sound g acc i s s' f e (did g i s f) I) in
        ap (λ (z : List Parcel). M (U s) ++ z) (mine_append (taken_now e) t)
        ∙ sym (append_assoc (M (U s)) (M (taken_now e)) (M t))
        ∙ ap (λ (z : List Parcel). z ++ M t) one
        ∙ append_assoc (M (delivered_now e)) (M (U s')) (M t)
        ∙ ap (λ (z : List Parcel). M (delivered_now e) ++ z) rest
        ∙ sym (append_assoc (M (delivered_now e)) (M d) (M (U (state_from g (suc i) s' h))))
        ∙ ap (λ (z : List Parcel). z ++ M (U (state_from g (suc i) s' h))) (sym (mine_append (delivered_now e) d))

pub in_order : (g : Setup) → Accepts g → (h : List Call) → InOrder g h
in_order g acc h a b pair =
    let q = sending a (g.rule.lane a b) in
    let cs = route g.net g.rule a b in
    let s = state_after g h in
    let stands : line s q cs ≡ standing g s a b =
    line_along s q cs
    ∙ ap (λ (z : List Parcel). along (λ c. held_in s c (g.rule.lane a b)) cs ++ z) (inside_sender s a (g.rule.lane a b)) in
    ap (λ (z : List Parcel). mine a b z ++ mine a b (taken_in (events_of g h))) (sym (line_empty q cs))
    ∙ lines_kept g a b acc pair h empty 0 (sound_empty g acc)
    ∙ ap (λ (z : List Parcel). mine a b (delivered_in (events_of g h)) ++ mine a b z) stands
