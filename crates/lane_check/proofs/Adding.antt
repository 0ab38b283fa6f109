-- How a lane comes to have its dependencies.
use Rattle.std.proofs.Common.{◌≡◌, ℕ, Bool, true, ◌&&◌, ◌||◌, eqb, List, ◌∷◌, ap, sym, ◌∙◌}
use Rattle.std.proofs.Math.Bool.{or_assoc}
use Rattle.std.proofs.lemmas.Bool.{cond-true}
use Rattle.model.specs.Lists.{keep, joined}
use Rattle.model.specs.Net.{Net}
use Rattle.model.specs.Rules.{Rule}
use Rattle.model.specs.Routes.{Pair, Edge, route, steps, has}
use Rattle.routing.specs.declared.dependencies.Dependencies.{Dependencies}
use Rattle.routing.specs.Dependencies.{leads, Adds}
use Rattle.routing.proofs.Adding.{Adding}
use Rattle.lane_check.proofs.Listing.{any_append}

module _ (net : Net) (rule : Rule) (ℓ : ℕ) where
  abbrev pub steps_of : Pair → List Edge
  steps_of p = steps (route net rule p.source p.destination)

  -- The dependencies of those of these pairs that are of the lane.
  abbrev pub deps_of : List Pair → List Edge
  deps_of ps = joined steps_of (keep (λ p. eqb (rule.lane p.source p.destination) ℓ) ps)

  -- A pair of the lane is added.
  pub adding_pair : (was is is' : Dependencies) (all : List Edge) (ps ps' : List Pair) (p : Pair) → ps ≡ p ∷ ps' → true ≡ eqb (rule.lane p.source p.destination) ℓ
      → Adds (has (steps_of p)) is is' → Adding was is all (deps_of ps) → Adding was is' all (deps_of ps')
  adding_pair was is is' all ps ps' p q e T A =
      record {
        each = λ b c.
            ap (λ (t : Bool). t || has (deps_of ps') b c) (T b c)
            ∙ or_assoc (leads is b c) (has (steps_of p) b c) (has (deps_of ps') b c)
            ∙ ap (λ (t : Bool). leads is b c || t) (sym (any_append (λ x. eqb x.tail b && eqb x.head c) (steps_of p) (deps_of ps')))
            ∙ ap (λ (xs : List Edge). leads is b c || has xs b c) (sym (ap deps_of q ∙ ap (joined steps_of) (cond-true _ _ _ (sym e))))
            ∙ A.each b c;
      }
