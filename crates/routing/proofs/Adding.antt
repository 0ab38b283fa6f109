-- Cells in which nothing leads anywhere, and dependencies that are being added.
use Rattle.std.proofs.Common.{◌≡◌, ℕ, zero, suc, ◌+◌, ◌*◌, false, ◌&&◌, ◌||◌, ltb, get_or, replicate, refl, List, Bool, ◌≤◌, inl, inr, arith}
use Rattle.std.proofs.lemmas.Bool.{and_right, cases_Bool}
use Rattle.model.specs.Routes.{Edge, has}
use Rattle.routing.specs.declared.dependencies.Dependencies.{Dependencies}
use Rattle.routing.specs.Dependencies.{leads}
use Rattle.routing.specs.Edges.{edge_at, Among}

blank : (n k : ℕ) → get_or (replicate n false) k false ≡ false
blank zero k = refl
blank (suc n) zero = refl
blank (suc n) (suc k) = blank n k

pub edge_none : (b c : ℕ) → edge_at (replicate 16384 false) b c ≡ false
edge_none b c = and_right (ltb b 128 && ltb c 128) _ (blank 16384 (b * 128 + c))

-- a channel that does not exist leads nowhere
pub row_none : (n : ℕ) (cells : List Bool) → Among n cells → (b c : ℕ) → n ≤ b → edge_at cells b c ≡ false
row_none n cells a b c l =
    elim (cases_Bool (edge_at cells b c)) [
      | inl e ↦ let h = (a b c e).0 in absurd (omega (arith, h, l))
      | inr e ↦ e
    ]

-- With the dependencies es still to come, all have been added to those that there were.
pub record Adding (was is : Dependencies) (all es : List Edge) : Type 0 where
  pub each : (b c : ℕ) → (leads is b c || has es b c) ≡ (leads was b c || has all b c)
