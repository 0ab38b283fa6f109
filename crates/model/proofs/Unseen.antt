-- The rules see of a parcel only its packet: leaving the places of the posts out changes no answer.
use Rattle.std.proofs.Common.{◌≡◌, ℕ, Bool, true, false, cond, ◌&&◌, eqb, ltb, [], ◌∷◌, length, Some, None, Option, sym, refl, ap, ◌∙◌, arith}
use mathlib.Core.Path.{fun_ext}
use Rattle.std.specs.Option.{option_map}
use Rattle.model.specs.Net.{count, start_of, finish_of, is_pair}
use Rattle.model.specs.Positions.{Position, sender, over, position_count, position_at}
use Rattle.model.specs.Rules.{Setup}
use Rattle.model.specs.Packets.{Packet, Parcel, bare, placed, Call, post, serve, Event, taken, delivered, moved, waits, idle, refused, said}
use Rattle.model.specs.State.{State, each, empty, with_mark, with_sender, with_put, front, has_room}
use Rattle.model.specs.Run.{Step, did, step, wants, held_at, cleared, contends, granted, advanced, grant, arrived, served, sent, first_from, after, lane_for, missing_number, laneless_pair}
use Rattle.model.specs.History.{step_at, state_after}
use Rattle.model.specs.Laws.{PlacesUnseen}
use Rattle.model.proofs.Contents.{mapped_cond, each_put, each_taken, each_sender, each_front, each_room}
use Rattle.model.proofs.Histories.{state_onward}

mapped_self : {X : Type 0} (o : Option X) → option_map (λ x. x) o ≡ o
mapped_self None = refl
mapped_self (Some x) = refl

abbrev each_event : {L K : Type 0} → (L → K) → Event L → Event K
each_event f (taken x) = taken (f x)
each_event f (delivered x) = delivered (f x)
each_event f (moved p) = moved p
each_event f waits = waits
each_event f idle = idle
each_event f (refused r) = refused r

said_each : {L : Type 0} (shows : L → Packet) (e : Event L) → said (λ p. p) (each_event shows e) ≡ said shows e
said_each shows (taken x) = refl
said_each shows (delivered x) = refl
said_each shows (moved p) = refl
said_each shows waits = refl
said_each shows idle = refl
said_each shows (refused r) = refl

module _ {L : Type 0} (shows : L → Packet) (makes : Packet → L) (same : (p : Packet) → shows (makes p) ≡ p) (g : Setup) where
  each_held : (s : State L) (u ℓ : ℕ) (q : Option Position) → held_at (each shows s) u ℓ q ≡ option_map shows (held_at s u ℓ q)
  each_held s u ℓ None = refl
  each_held s u ℓ (Some sender) = refl
  each_held s u ℓ (Some (over c)) = each_front shows s c ℓ

  each_cleared : (s : State L) (u ℓ : ℕ) (q : Option Position) → each shows (cleared s u ℓ q) ≡ cleared (each shows s) u ℓ q
  each_cleared s u ℓ None = refl
  each_cleared s u ℓ (Some sender) = each_sender shows s u ℓ None
  each_cleared s u ℓ (Some (over c)) = each_taken shows s c ℓ

  each_contends : (s : State L) (c ℓ p : ℕ)
      → contends (λ x. x) (λ x. x) g (each shows s) c ℓ p ≡ contends shows makes g s c ℓ p
  each_contends s c ℓ p =
      let u : ℕ = start_of g.net c in
      let q : Option Position = position_at g.net c p in
      ap (λ (o : Option Packet). wants g c u o) (mapped_self (held_at (each shows s) u ℓ q) ∙ each_held s u ℓ q)

  each_granted : (s : State L) (c ℓ : ℕ) → granted (λ x. x) (λ x. x) g (each shows s) c ℓ ≡ granted shows makes g s c ℓ
  each_granted s c ℓ =
      ap (λ (f : ℕ → Bool). first_from f (position_count g.net c) (s.mark c ℓ) (position_count g.net c)) (fun_ext (each_contends s c ℓ))

  each_advanced : (s : State L) (c ℓ p : ℕ)
      → advanced (λ x. x) (λ x. x) g (each shows s) c ℓ p ≡ each shows (advanced shows makes g s c ℓ p)
  each_advanced s c ℓ p =
      let u : ℕ = start_of g.net c in
      let q : Option Position = position_at g.net c p in
      let e : with_put (cleared (each shows s) u ℓ q) c ℓ (held_at (each shows s) u ℓ q)
      ≡ each shows (with_put (cleared s u ℓ q) c ℓ (held_at s u ℓ q)) =
      ap (λ (o : Option Packet). with_put (cleared (each shows s) u ℓ q) c ℓ o) (each_held s u ℓ q)
      ∙ ap (λ (t : State Packet). with_put t c ℓ (option_map shows (held_at s u ℓ q))) (sym (each_cleared s u ℓ q))
      ∙ sym (each_put shows (cleared s u ℓ q) c ℓ (held_at s u ℓ q)) in
      ap (λ (t : State Packet). with_mark t c ℓ (after (position_count g.net c) p)) e

  abbrev shown : Step L → Step Packet
  shown t = did (each_event shows t.event) (each shows t.state)

  shown_cond : (b : Bool) (x y : Step L) → shown (cond b x y) ≡ cond b (shown x) (shown y)
  shown_cond true x y = refl
  shown_cond false x y = refl

  each_grant : (s : State L) (c ℓ : ℕ) (o : Option ℕ) → grant (λ x. x) (λ x. x) g (each shows s) c ℓ o ≡ shown (grant shows makes g s c ℓ o)
  each_grant s c ℓ None = refl
  each_grant s c ℓ (Some p) = ap (λ (t : State Packet). did (moved p) t) (each_advanced s c ℓ p)

  each_arrived : (c : ℕ) (o : Option L) → arrived (λ x. x) (λ x. x) g c (option_map shows o) ≡ option_map shows (arrived shows makes g c o)
  each_arrived c None = refl
  each_arrived c (Some x) = sym (mapped_cond shows (eqb (shows x).destination (finish_of g.net c)) (Some x) None)

  each_served : (s : State L) (c ℓ : ℕ) (o : Option L)
      → served (λ x. x) (λ x. x) g (each shows s) c ℓ (option_map shows o) ≡ shown (served shows makes g s c ℓ o)
  each_served s c ℓ (Some x) = ap (λ (t : State Packet). did (delivered (shows x)) t) (sym (each_taken shows s c ℓ))
  each_served s c ℓ None =
      let b : Bool = has_room s c ℓ in
      let x : Step L = grant shows makes g s c ℓ (granted shows makes g s c ℓ) in
      let y : Option ℕ → Step Packet = grant (λ x. x) (λ x. x) g (each shows s) c ℓ in
      let z : Step Packet = did waits (each shows s) in
      ap (λ (i : Bool). cond i (y (granted (λ x. x) (λ x. x) g (each shows s) c ℓ)) z) (each_room shows s c ℓ)
      ∙ ap (λ (t : Step Packet). cond b t z) (ap y (each_granted s c ℓ) ∙ each_grant s c ℓ (granted shows makes g s c ℓ))
      ∙ sym (shown_cond b x (did waits s))

  each_sent : (s : State L) (p : Packet) (o : Option L)
      → sent (λ x. x) (λ x. x) g (each shows s) p (option_map shows o) ≡ shown (sent shows makes g s p o)
  each_sent s p (Some x) = refl
  each_sent s p None =
      ap (λ (x : Packet). did (taken x) (with_sender (each shows s) p.source (lane_for g p) (Some x))) (sym (same p))
      ∙ ap (λ (z : State Packet). did (taken (shows (makes p))) z) (sym (each_sender shows s p.source (lane_for g p) (Some (makes p))))

  each_step : (s : State L) (c : Call) → step (λ x. x) (λ x. x) g (each shows s) c ≡ shown (step shows makes g s c)
  each_step s (post a b t) =
      let p : Packet = record { source = a; destination = b; tag = t } in
      let known : Bool = is_pair g.net.switches a b in
      let fits : Bool = ltb (lane_for g p) g.lanes in
      let x : Step L = sent shows makes g s p (s.sender a (lane_for g p)) in
      let y : Step L = did (refused (laneless_pair a b)) s in
      let z : Step L = did (refused missing_number) s in
      ap (λ (w : Step Packet). cond known (cond fits w (shown y)) (shown z)) (each_sent s p (s.sender a (lane_for g p)))
      ∙ ap (λ (w : Step Packet). cond known w (shown z)) (sym (shown_cond fits x y))
      ∙ sym (shown_cond known (cond fits x y) z)
  each_step s (serve c ℓ) =
      let known : Bool = ltb c (count g.net) && ltb ℓ g.lanes in
      let x : Step L = served shows makes g s c ℓ (arrived shows makes g c (front s c ℓ)) in
      let z : Step L = did (refused missing_number) s in
      ap (λ (o : Option Packet). cond known (served (λ x. x) (λ x. x) g (each shows s) c ℓ o) (shown z))
      (ap (arrived (λ x. x) (λ x. x) g c) (each_front shows s c ℓ) ∙ each_arrived c (front s c ℓ))
      ∙ ap (λ (w : Step Packet). cond known w (shown z)) (each_served s c ℓ (arrived shows makes g c (front s c ℓ)))
      ∙ sym (shown_cond known x z)

-- One call over bare packets leaves what the call over parcels shows, and answers as it does, whatever its place.
pub unseen : (g : Setup) (i : ℕ) (s : State Parcel) (c : Call)
    → ((step (λ p. p) (λ p. p) g (each bare s) c).state ≡ each bare (step_at g i s c).state)
    × (said (λ p. p) (step (λ p. p) (λ p. p) g (each bare s) c).event ≡ said bare (step_at g i s c).event)
unseen g i s c =
    let e = each_step bare (placed i) (λ p. refl) g s c in
    (ap (λ (t : Step Packet). t.state) e, ap (λ (t : Step Packet). said (λ p. p) t.event) e ∙ said_each bare (step_at g i s c).event)

pub places_unseen_lem : PlacesUnseen
places_unseen_lem g h c =
    let u = unseen g (length h) (state_after g h) c in
    (u.0 ∙ ap (λ (s : State Parcel). each bare s) (sym (state_onward g empty 0 (length h) h (c ∷ []) (omega arith))), u.1)
