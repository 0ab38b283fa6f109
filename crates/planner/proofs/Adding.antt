-- The dependencies of a route, one after the other, into a lane.
use Rattle.std.proofs.Common.{◌≡◌, ℕ, ◌<◌, Bool, true, false, ◌||◌, List, ◌∷◌, is_some, Some, None, Option, sym, refl, ap, ◌∙◌, subst, ◌≢◌}
use Rattle.std.proofs.lemmas.Bool.{eq-eqb, ne_eqb, lt-ltb, or_left, or_right}
use Rattle.model.specs.Routes.{Edge, has}
use Rattle.model.specs.Walks.{Fewest}
use Rattle.routing.specs.Dependencies.{leads, Adds, taking}
use Rattle.routing.specs.Ways.{edge_of}
use Rattle.routing.specs.declared.dependencies.Dependencies.{Dependencies}
use Rattle.routing.specs.declared.route.Step.{Step}
use Rattle.planner.specs.Cycles.{Acyclic, Reach, only}
use Rattle.planner.specs.Boards.{Sound, with, Admits, Tried}
use Rattle.planner.proofs.Closing.{walk_more, acyclic_less, acyclic_plus, closes}

-- A step joins two different channels that exist.
taking_is : (n : ℕ) (x : Step) (b c : ℕ) → x.tail < n → x.head < n → (x.tail ≢ x.head) → taking n x b c ≡ only x.tail x.head b c
taking_is n x b c ht hh ne = simp (lt-ltb x.tail n ht, lt-ltb x.head n hh, ne_eqb x.tail x.head ne)

pub admits_new : (was is : Dependencies) (x : Step) (o : Option ℕ) → x.tail < was.channels → x.head < was.channels → (x.tail ≢ x.head)
    → Acyclic (leads was) was.channels → Fewest (leads was) was.channels x.head x.tail o → is_some o ≡ false
    → is.channels ≡ was.channels → Adds (taking was.channels x) was is → Admits x.tail x.head was is true
admits_new was is x (Some k) ht hh ne A f s size adds = cc
admits_new was is x None ht hh ne A f s size adds =
    let n = was.channels in
    let z : Adds (only x.tail x.head) was is = λ b c. adds b c ∙ ap (λ (t : Bool). leads was b c || t) (taking_is n x b c ht hh ne) in
    record {
      adds = z;
      sound =
          record {
            size = size;
            free =
                acyclic_less (leads is) (with was (only x.tail x.head)) n (λ b c hb hc h. sym (z b c) ∙ h)
                (acyclic_plus (leads was) n x.tail x.head A (λ r. f hh ht r.0 r.1));
          };
    }

pub admits_not : (was is : Dependencies) (c e : ℕ) (o : Option ℕ) → Fewest (leads was) was.channels e c o → is_some o ≡ true → Admits c e was is false
admits_not was is c e (Some k) f s = (k, f.3)
admits_not was is c e None f s = cc

module _ (n : ℕ) (needed : ℕ → ℕ → Bool) (was : Dependencies) where
  -- A lane after part of a route, whose other steps are still to come.
  pub record Noted (is : Dependencies) (rest : List Edge) : Type 0 where
    pub each : (b c : ℕ) → (leads is b c || has rest b c) ≡ with was needed b c
    pub sound : Sound n is

  -- One that closes a cycle.
  pub noted_closes : (is more : Dependencies) (x : Step) (rest : List Edge) → x.tail < n → x.head < n → Noted is (edge_of x ∷ rest)
      → Admits x.tail x.head is more false → Tried n needed was more false
  noted_closes is more x rest ht hh N r =
      let W = with was needed in
      let here : has (edge_of x ∷ rest) x.tail x.head ≡ true = simp (eq-eqb x.tail x.tail refl, eq-eqb x.head x.head refl) in
      let there : W x.tail x.head ≡ true = sym (N.each x.tail x.head) ∙ or_right (leads is x.tail x.head) (has (edge_of x ∷ rest) x.tail x.head) here in
      let back = walk_more (leads is) W n (λ b c hb hc h. sym (N.each b c) ∙ or_left (leads is b c) (has (edge_of x ∷ rest) b c) h) x.head in
      let way = subst (λ (m : ℕ). Reach (leads is) m x.head x.tail) N.sound.size r in
      record { closes = closes W n x.tail x.head ht hh (way.0, back way.0 x.tail ht way.1) there }
