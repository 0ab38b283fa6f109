-- A list of requests, one after the other.
use Rattle.std.proofs.Common.{◌≡◌, ℕ, ◌+◌, ◌<◌, ◌≤◌, List, [], ◌∷◌, ◌++◌, map, length, get_or, take, drop, set, Some, Ok, Option, sym, refl, ap, ◌∙◌, subst, subst₂, arith}
use Rattle.std.proofs.lemmas.List.{length_push, length-map, length-take-le, take_more_set, take_all, drop-set-lt, drop-drop, map_push, map_more}
use Rattle.model.specs.Rules.{Rule, Setup}
use Rattle.model.specs.Packets.{Call, Request, Reply}
use Rattle.model.specs.History.{grown, reply_to, asked, replies}
use Rattle.model.proofs.Promising.{promise}
use Rattle.fabric.specs.declared.network.Fabric.{Fabric}
use Rattle.run.specs.Words.{request_of, answer_reply}
use Rattle.run.specs.Runs.{setup_of, setup_for, Follows, Keeps, KeepsAll, Opened, Played}
use Rattle.run.specs.declared.run.Run.{Run}
use Rattle.run.specs.declared.words.Answer.{Answer}
use Rattle.run.specs.declared.words.Request.{Request as CodeRequest}

asked_push : (h : List Call) (xs : List Request) (x : Request) → asked h (xs ++ x ∷ []) ≡ grown (asked h xs) x
asked_push h [] x = refl
asked_push h (y ∷ xs) x = asked_push (grown h y) xs x

replies_push : (g : Setup) (h : List Call) (xs : List Request) (x : Request)
    → replies g h (xs ++ x ∷ []) ≡ replies g h xs ++ reply_to g (asked h xs) x ∷ []
replies_push g h [] x = refl
replies_push g h (y ∷ xs) x = ap (λ (z : List Reply). reply_to g h y ∷ z) (replies_push g (grown h y) xs x)

module _ {R : Type 0} (maps : R → Rule) (r : Run R) where
  -- One more request.
  all_push : (xs : List Request) (x : Request) (r₁ r₂ : Run R) (old new : List Answer) (a : Answer) → length xs < length new
      → KeepsAll maps r xs r₁ old new → Keeps maps r₁ x r₂ (answer_reply a) → KeepsAll maps r (xs ++ x ∷ []) r₂ old (set new (length xs) a)
  all_push xs x r₁ r₂ old new a l all one =
      let g : Setup = setup_of maps r in
      let n : ℕ = length xs in
      let size : length (xs ++ x ∷ []) ≡ n + 1 = length_push xs x in
      let front : take (length (xs ++ x ∷ [])) (set new n a) ≡ take n new ++ a ∷ [] =
      ap (λ (i : ℕ). take i (set new n a)) size ∙ take_more_set new n a l in
      let back : drop (length (xs ++ x ∷ [])) (set new n a) ≡ drop 1 (drop n new) =
      ap (λ (i : ℕ). drop i (set new n a)) size ∙ drop-set-lt (n + 1) new n a (omega arith) ∙ sym (drop-drop 1 n new) in
      record {
        same = one.same ∙ all.same;
        kept = λ h f.
            let k = all.kept h f in
            let q = one.kept (asked h xs) k.0 in (
              subst (λ (z : List Call). Follows maps r₂ z) (sym (asked_push h xs x)) q.0,
              ap (λ (z : List Answer). map answer_reply z) front
                  ∙ map_push answer_reply (take n new) a
                  ∙ ap (λ (z : List (Option Reply)). z ++ answer_reply a ∷ []) k.1
                  ∙ ap (λ (z : Option Reply). map Some (replies g h xs) ++ z ∷ [])
                  (q.1 ∙ ap (λ (z : Setup). Some (reply_to z (asked h xs) x)) all.same)
                  ∙ sym (map_push Some (replies g h xs) (reply_to g (asked h xs) x))
                  ∙ ap (λ (z : List Reply). map Some z) (sym (replies_push g h xs x)),
            );
        rest =
            back
            ∙ ap (λ (z : List Answer). drop 1 z) all.rest
            ∙ drop-drop 1 n old
            ∙ ap (λ (i : ℕ). drop i old) (sym size);
      }

  pub all_more : (xs : List CodeRequest) (i : ℕ) (d : CodeRequest) (r₁ r₂ : Run R) (old new : List Answer) (a : Answer)
      → i < length xs → i < length new → KeepsAll maps r (map request_of (take i xs)) r₁ old new
      → Keeps maps r₁ (request_of (get_or xs i d)) r₂ (answer_reply a)
      → KeepsAll maps r (map request_of (take (i + 1) xs)) r₂ old (set new i a)
  all_more xs i d r₁ r₂ old new a l m all one =
      let size : length (map request_of (take i xs)) ≡ i = length-map (take i xs) request_of ∙ length-take-le i xs (omega arith) in
      subst₂ (λ (ys : List Request) (j : ℕ). KeepsAll maps r ys r₂ old (set new j a)) (sym (map_more request_of xs i d l)) size
      (all_push (map request_of (take i xs)) (request_of (get_or xs i d)) r₁ r₂ old new a (omega arith) all one)

  pub all_end : (xs : List CodeRequest) (i : ℕ) (r₁ : Run R) (old new : List Answer) → length xs ≤ i
      → KeepsAll maps r (map request_of (take i xs)) r₁ old new → KeepsAll maps r (map request_of xs) r₁ old new
  all_end xs i r₁ old new l all =
      subst (λ (ys : List CodeRequest). KeepsAll maps r (map request_of ys) r₁ old new) (take_all i xs l) all

  -- From the opening on.
  pub played : (f : Fabric) (n : ℕ) (rule : R) (xs : List CodeRequest) (old new : List Answer) (r' : Run R)
      → Opened maps f n rule (Ok r) → length xs ≤ length old → KeepsAll maps r (map request_of xs) r' old new
      → Played maps f n rule (map request_of xs) old r' new
  played f n rule xs old new r' o l all =
      record {
        lanes_fit = (o.0, o.1);
        list_fits = omega (arith, length-map xs request_of);
        setup = all.same ∙ o.2;
        follows = (all.kept [] o.3).0;
        answered = (all.kept [] o.3).1 ∙ ap (λ (z : Setup). map Some (replies z [] (map request_of xs))) o.2;
        rest = all.rest;
        law = λ y k. promise (setup_for maps f n rule) y (asked [] (take k (map request_of xs)));
      }
