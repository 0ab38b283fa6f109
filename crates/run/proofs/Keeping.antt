-- From one step of a run to every history that it follows.
use Rattle.std.proofs.Common.{◌≡◌, [], ◌∷◌, ◌++◌, Some, Option, List, sym, refl, ap, ◌∙◌, subst, subst₂}
use Rattle.model.specs.Rules.{Rule, Setup}
use Rattle.model.specs.Packets.{Packet, bare, Call, Request, make, Reply, said}
use Rattle.model.specs.State.{State, each}
use Rattle.model.specs.Run.{Step, step}
use Rattle.model.specs.History.{state_after, grown, reply_to}
use Rattle.model.proofs.Promising.{promise}
use Rattle.model.proofs.Unseen.{places_unseen_lem}
use Rattle.run.specs.View.{view}
use Rattle.run.specs.Runs.{setup_of, Follows, Steps, Obeys, Shows, Keeps}
use Rattle.run.specs.declared.run.Run.{Run}

abbrev plain_step : Setup → State Packet → Call → Step Packet
plain_step g s c = step (λ p. p) (λ p. p) g s c

module _ {R : Type 0} (maps : R → Rule) (r : Run R) where
  pub obeys : (c : Call) (r' : Run R) (a : Option Reply) → Steps maps r c r' a → Obeys maps r c r' a
  obeys c r' a s =
      let g : Setup = setup_of maps r in
      record {
        same = s.same;
        kept = λ h f.
            let u = places_unseen_lem g h c in (
              s.did.state
                  ∙ ap (λ (z : State Packet). (plain_step g z c).state) f
                  ∙ u.0
                  ∙ ap (λ (z : Setup). each bare (state_after z (h ++ c ∷ []))) (sym s.same),
              s.did.says ∙ ap (λ (z : State Packet). Some (said (λ p. p) (plain_step g z c).event)) f ∙ ap (λ (z : Reply). Some z) u.1,
            );
      }

  pub shows : (x : Request) (shown : State Packet → Reply) (a : Option Reply) → ((h : List Call) → shown (each bare (state_after (setup_of maps r) h)) ≡ reply_to (setup_of maps r) h x)
      → a ≡ Some (shown (view r.board)) → Shows maps r x a
  shows x shown a same e = record { shown = λ h f. e ∙ ap (λ (s : State Packet). Some (shown s)) f ∙ ap (λ (z : Reply). Some z) (same h) }

  pub keeps_call : (x : Request) (c : Call) (r' : Run R) (a a' : Option Reply) → x ≡ make c → a ≡ a' → Obeys maps r c r' a' → Keeps maps r x r' a
  keeps_call x c r' a a' e q o =
      subst₂ (λ (y : Request) (b : Option Reply). Keeps maps r y r' b) (sym e) (sym q)
      (record { same = o.same; kept = o.kept; law = λ y h f. promise (setup_of maps r) y (h ++ c ∷ []) })

  pub keeps_shown : (x y : Request) (a a' : Option Reply) → x ≡ y → a ≡ a' → ((h : List Call) → grown h y ≡ h) → Shows maps r y a' → Keeps maps r x r a
  keeps_shown x y a a' e q stays k =
      subst₂ (λ (z : Request) (b : Option Reply). Keeps maps r z r b) (sym e) (sym q)
      (record {
        same = refl;
        kept = λ h f. (subst (λ (z : List Call). Follows maps r z) (sym (stays h)) f, k.shown h f);
        law = λ l h f. promise (setup_of maps r) l (grown h y);
      })
