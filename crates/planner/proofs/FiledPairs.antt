-- Pairs are filed one after the other, as the model files them.
use Rattle.std.proofs.Common.{◌≡◌, ℕ, zero, suc, ◌+◌, ◌*◌, ◌<◌, Bool, true, false, ◌&&◌, ◌||◌, eqb, List, [], ◌∷◌, ◌++◌, length, get_or, set, replicate, Some, None, Option, sym, refl, ap, ◌∙◌, subst, inl, inr, arith, length-set}
use Rattle.std.proofs.Math.Bool.{or_assoc, or_comm, or-false}
use Rattle.std.proofs.lemmas.List.{get_or-replicate, length-replicate, get_or-set_same, get_or-set_other}
use Rattle.std.proofs.lemmas.Bool.{cases_eq, false≢true}
use Rattle.model.specs.Lists.{any_of}
use Rattle.model.specs.Net.{Net, count}
use Rattle.model.specs.Rules.{Rule}
use Rattle.model.specs.Routes.{Edge, Pair, route, steps, has}
use Rattle.model.specs.Order.{completes}
use Rattle.model.specs.Refusals.{refuse, topology_layer}
use Rattle.model.specs.Planner.{Planned, refused, fits_at, file_from}
use Rattle.model.proofs.Members.{any_cases}
use Rattle.model.proofs.Ordering.{Inside}
use Rattle.model.proofs.Walking.{walk_exists}
use Rattle.routing.specs.Dependencies.{leads, Adds}
use Rattle.routing.specs.declared.dependencies.Dependencies.{Dependencies}
use Rattle.planner.specs.Boards.{Sound, with, Refuses, PlacedIn, Placed}
use Rattle.planner.proofs.Closing.{acyclic_less}
use Rattle.planner.proofs.Completing.{completes_yes, completes_no, steps_inside}

has_append : (f : Edge → Bool) (xs ys : List Edge) → any_of f (xs ++ ys) ≡ (any_of f ys || any_of f xs)
has_append f [] ys = sym (or-false (any_of f ys))
has_append f (x ∷ xs) ys =
    ap (λ (b : Bool). f x || b) (has_append f xs ys) ∙ sym (or_assoc (f x) (any_of f ys) (any_of f xs))
    ∙ ap (λ (b : Bool). b || any_of f xs) (or_comm (f x) (any_of f ys)) ∙ or_assoc (any_of f ys) (f x) (any_of f xs)

-- The lowest lane that fits.
fits_some : (n : ℕ) (new : List Edge) (ess : List (List Edge)) (i l : ℕ) → l < length ess
    → ((j : ℕ) → j < l → completes n (new ++ get_or ess j []) ≡ false) → completes n (new ++ get_or ess l []) ≡ true → fits_at n new i ess ≡ Some (i + l)
fits_some n new [] i l h lower here = absurd (omega arith)
fits_some n new (es ∷ ess) i zero h lower here =
    let z : i ≡ i + 0 = omega arith in
    ap (λ (b : Bool). elim b as (λ _. Option ℕ) [ true ↦ Some i | false ↦ fits_at n new (suc i) ess ]) here ∙ ap Some z
fits_some n new (es ∷ ess) i (suc l) h lower here =
    let z : suc i + l ≡ i + suc l = omega arith in
    ap (λ (b : Bool). elim b as (λ _. Option ℕ) [ true ↦ Some i | false ↦ fits_at n new (suc i) ess ]) (lower 0 (omega arith))
    ∙ fits_some n new ess (suc i) l (omega arith) (λ j hj. lower (suc j) (omega arith)) here ∙ ap Some z

fits_none : (n : ℕ) (new : List Edge) (ess : List (List Edge)) (i : ℕ) → ((j : ℕ) → j < length ess → completes n (new ++ get_or ess j []) ≡ false)
    → fits_at n new i ess ≡ None
fits_none n new [] i all = refl
fits_none n new (es ∷ ess) i all =
    ap (λ (b : Bool). elim b as (λ _. Option ℕ) [ true ↦ Some i | false ↦ fits_at n new (suc i) ess ]) (all 0 (omega arith))
    ∙ fits_none n new ess (suc i) (λ j hj. all (suc j) (omega arith))

-- A lane holds these dependencies.
pub record Keeps (n : ℕ) (x : Dependencies) (es : List Edge) : Type 0 where
  pub sound : Sound n x
  pub same : (b c : ℕ) → leads x b c ≡ has es b c
  pub inside : Inside n es

keeps_none : (n : ℕ) (x : Dependencies) → x.channels ≡ n → ((b c : ℕ) → leads x b c ≡ false) → Keeps n x []
keeps_none n x size none =
    record { sound = record { size = size; free = λ a k ha w. false≢true (sym (none w.0 a) ∙ w.3) }; same = none; inside = λ b c w. absurd (false≢true w) }

module _ (n : ℕ) (new : List Edge) (inside : Inside n new) (x : Dependencies) (es : List Edge) (K : Keeps n x es) where
  both : (b c : ℕ) → has (new ++ es) b c ≡ with x (has new) b c
  both b c = has_append (λ y. eqb y.tail b && eqb y.head c) new es ∙ ap (λ (z : Bool). z || has new b c) (sym (K.same b c))

  both_inside : Inside n (new ++ es)
  both_inside b c w = elim (any_cases (λ y. eqb y.tail b && eqb y.head c) new es w) [ inl v ↦ inside b c v | inr v ↦ K.inside b c v ]

  refuses : Refuses n (has new) x → completes n (new ++ es) ≡ false
  refuses C =
      completes_no n (new ++ es) (λ A. C.closes (acyclic_less (with x (has new)) (has (new ++ es)) n (λ b c _ _ w. both b c ∙ w) A))

  module _ (y : Dependencies) (adds : Adds (has new) x y) (s : Sound n y) where
    accepts : completes n (new ++ es) ≡ true
    accepts =
        completes_yes n (new ++ es) both_inside
        (acyclic_less (has (new ++ es)) (leads y) n (λ b c _ _ w. adds b c ∙ sym (both b c) ∙ w) s.free)

    keeps_more : Keeps n y (new ++ es)
    keeps_more = record { sound = s; same = λ b c. adds b c ∙ sym (both b c); inside = both_inside }

some_lane : (board : List Dependencies) (j : ℕ) → j < length board → Dependencies
some_lane [] j h = absurd (omega arith)
some_lane (x ∷ xs) j h = x

-- The board holds the dependencies so far.
pub record Kept (n : ℕ) (board : List Dependencies) (ess : List (List Edge)) : Type 0 where
  pub long : length ess ≡ length board
  pub each : (l : ℕ) (d : Dependencies) → l < length board → Keeps n (get_or board l d) (get_or ess l [])

module _ (net : Net) (rule : Rule) (table : List ℕ) where
  -- A board and a lane table after part of the pairs, of which the others are still to be filed, as all are from this board and this table.
  pub record Filing (first : Planned) (board : List Dependencies) (done : List ℕ) (rest : List Pair) : Type 0 where
    pub ess : List (List Edge)
    pub kept : Kept (count net) board ess
    pub left : first ≡ file_from net rule table rest ess done

  pub filing_none : (first : Planned) (x : Dependencies) (lanes : ℕ) (board : List Dependencies) (done : List ℕ) (rest : List Pair) → x.channels ≡ count net
      → ((b c : ℕ) → leads x b c ≡ false) → board ≡ replicate lanes x → first ≡ file_from net rule table rest (replicate lanes []) done
      → Filing first board done rest
  filing_none first x lanes board done rest size none e first_is =
      record {
        ess = replicate lanes [];
        kept =
            record {
              long = length-replicate lanes [] ∙ sym (length-replicate lanes x) ∙ ap length (sym e);
              each = λ l d h.
                  let inside : l < lanes = omega (arith, ap length e, length-replicate lanes x) in
                  subst (λ z. Keeps (count net) z (get_or (replicate lanes []) l [])) (sym (ap (λ bs. get_or bs l d) e ∙ get_or-replicate lanes l x d inside))
                  (subst (Keeps (count net) x) (sym (get_or-replicate lanes l [] [] inside)) (keeps_none (count net) x size none));
            };
        left = first_is;
      }

  module _ (s d : ℕ) (board : List Dependencies) (ess : List (List Edge)) (K : Kept (count net) board ess) where
    abbrev new : List Edge
    new = steps (route net rule s d)

    new_inside : Inside (count net) new
    new_inside = steps_inside (count net) (route net rule s d) (walk_exists net rule _ s d)

    refused_at : (j : ℕ) (x : Dependencies) → j < length board → Refuses (count net) (has new) (get_or board j x)
        → completes (count net) (new ++ get_or ess j []) ≡ false
    refused_at j x h C = refuses (count net) new new_inside (get_or board j x) (get_or ess j []) (K.each j x h) C

    fits_nowhere : (is : List Dependencies) → Placed (count net) (has new) board is None → fits_at (count net) new 0 ess ≡ None
    fits_nowhere is P =
        fits_none (count net) new ess 0
        (λ j h. let g = K.long in let b : j < length board = omega arith in refused_at j (some_lane board j b) b (P j (some_lane board j b) b))

    module _ (is : List Dependencies) (l : ℕ) (P : PlacedIn (count net) (has new) board is l) where
      abbrev was : Dependencies
      was = get_or board l P.lane

      kept_was : Keeps (count net) was (get_or ess l [])
      kept_was = K.each l P.lane P.below

      fits_here : fits_at (count net) new 0 ess ≡ Some l
      fits_here =
          let g = K.long in
          let h = P.below in
          let z : 0 + l ≡ l = omega arith in
          fits_some (count net) new ess 0 l (omega arith)
          (λ j hj. refused_at j P.lane (omega arith) (P.lower j P.lane (omega arith) hj))
          (accepts (count net) new new_inside was (get_or ess l []) kept_was P.lane (P.adds P.lane) P.sound)
          ∙ ap Some z

      kept_more : Kept (count net) is (set ess l (new ++ get_or ess l []))
      kept_more =
          let g = K.long in
          let h = P.below in
          let more = new ++ get_or ess l [] in
          record {
            long = length-set ess l more ∙ g ∙ sym (length-set board l P.lane) ∙ ap length (sym P.set);
            each = λ j x hj.
                let in_board : j < length board = omega (arith, ap length P.set, length-set board l P.lane) in
                subst (λ bs. Keeps (count net) (get_or bs j x) (get_or (set ess l more) j [])) (sym P.set)
                (elim (cases_eq j l) [
                  | inl q ↦
                      subst (λ i. Keeps (count net) (get_or (set board l P.lane) i x) (get_or (set ess l more) i [])) (sym q)
                      (subst (λ y. Keeps (count net) y (get_or (set ess l more) l [])) (sym (get_or-set_same board l P.lane x h))
                      (subst (λ es. Keeps (count net) P.lane es) (sym (get_or-set_same ess l more [] (omega arith)))
                      (keeps_more (count net) new new_inside was (get_or ess l []) kept_was P.lane (P.adds P.lane) P.sound)))
                  | inr q ↦
                      subst (λ y. Keeps (count net) y (get_or (set ess l more) j [])) (sym (get_or-set_other board l j P.lane x q))
                      (subst (λ es. Keeps (count net) (get_or board j x) es) (sym (get_or-set_other ess l j more [] q)) (K.each j x in_board))
                ]);
          }

  abbrev onward : ℕ → ℕ → List Pair → List (List Edge) → List ℕ → Option ℕ → Planned
  onward s d ps ess xs m =
      elim m [
        | None ↦ refused (refuse topology_layer 10 (s ∷ d ∷ []))
        | Some l ↦ file_from net rule table ps (set ess l (steps (route net rule s d) ++ get_or ess l [])) (set xs (s * net.switches + d) l)
      ]

  module _ (first : Planned) (board : List Dependencies) (done : List ℕ) (p : Pair) (rest : List Pair) (F : Filing first board done (p ∷ rest)) where
    -- A pair that fits in no lane.
    pub filing_refused : (is : List Dependencies) → Placed (count net) (has (steps (route net rule p.source p.destination))) board is None
        → first ≡ refused (refuse topology_layer 10 (p.source ∷ p.destination ∷ []))
    filing_refused is P = F.left ∙ ap (onward p.source p.destination rest F.ess done) (fits_nowhere p.source p.destination board F.ess F.kept is P)

    -- One more is filed.
    pub filing_more : (is : List Dependencies) (l : ℕ) (more : List ℕ) → PlacedIn (count net) (has (steps (route net rule p.source p.destination))) board is l
        → more ≡ set done (p.source * net.switches + p.destination) l → Filing first is more rest
    filing_more is l more P e =
        record {
          ess = set F.ess l (steps (route net rule p.source p.destination) ++ get_or F.ess l []);
          kept = kept_more p.source p.destination board F.ess F.kept is l P;
          left =
              F.left ∙ ap (onward p.source p.destination rest F.ess done) (fits_here p.source p.destination board F.ess F.kept is l P)
              ∙ ap (file_from net rule table rest (set F.ess l (steps (route net rule p.source p.destination) ++ get_or F.ess l []))) (sym e);
        }
