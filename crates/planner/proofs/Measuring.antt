-- The rows of hop counts are the model's.
use Rattle.std.proofs.Common.{◌≡◌, ℕ, zero, suc, ◌+◌, ◌<◌, ◌≤◌, Bool, List, get_or, Some, None, Option, sym, refl, ap, subst, inl, inr, arith}
use Rattle.std.proofs.lemmas.Bool.{cases_eq}
use Rattle.std.specs.Fn.{Called, Mut}
use Rattle.std.specs.Array.{IsFromFnResultFrom}
use Rattle.model.specs.Net.{Net, joins}
use Rattle.model.specs.Planner.{hops}
use Rattle.model.specs.Walks.{Fewest}
use Rattle.model.proofs.PlannerHops.{hops_exact_lem}
use Rattle.fabric.specs.Channels.{Inside}

fewest_one : (e : ℕ → ℕ → Bool) (n a b : ℕ) (x y : Option ℕ) → a < n → b < n → Fewest e n a b x → Fewest e n a b y → x ≡ y
fewest_one e n a b None None ha hb f g = refl
fewest_one e n a b None (Some k) ha hb f g = absurd (f ha hb k g.3)
fewest_one e n a b (Some k) None ha hb f g = absurd (g ha hb k f.3)
fewest_one e n a b (Some k) (Some m) ha hb f g = let q : k ≡ m = omega (arith, f.4 m g.3, g.4 k f.3) in ap Some q

-- What the search answers of two switches is the hop count of the model.
pub hops_are : (net : Net) → Inside net.switches net.channels → (u v : ℕ) (o : Option ℕ) → u < net.switches → v < net.switches
    → Fewest (joins net) net.switches u v o → o ≡ hops net u v
hops_are net inside u v o hu hv f =
    fewest_one (joins net) net.switches u v o (hops net u v) hu hv f (hops_exact_lem net (λ c l. ((inside c l).0, (inside c l).1)) u v hu hv)

-- Where a closure stays as it is, what holds of each call holds of each element that `from_fn` makes.
pub from_fn_same : {F B : Type 0} (g : Mut F (ℕ × Unit {0}) B) (P : ℕ → B → Type 0) (f : F)
    → ((i : ℕ) (y : B) (q : F) → Called g f (i, tt) y q → P i y × (q ≡ f))
    → (ys : List B) (i n : ℕ) → IsFromFnResultFrom g f ys i n → (k : ℕ) (d : B) → i ≤ k → k < i + n → P k (get_or ys k d)
from_fn_same g P f h ys i zero c k d l m = absurd (omega arith)
from_fn_same {F} {B} g P f h ys i (suc n) c k d l m =
    let r = h i c.1 c.0 c.3 in
    elim (cases_eq k i) [
      | inl e ↦ subst (λ (j : ℕ). P j (get_or ys j d)) (sym e) (subst (λ (y : B). P i y) (sym (c.2.1 d)) r.0)
      | inr e ↦ from_fn_same g P f h ys (i + 1) n (subst (λ (p : F). IsFromFnResultFrom g p ys (i + 1) n) r.1 c.4) k d (omega arith) (omega arith)
    ]
