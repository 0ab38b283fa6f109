-- The switches of a fabric as a graph: why its laws hold.
use Rattle.std.specs.Prelude.{◌≡◌, ℕ, suc, ◌≤◌, Bool, true, false, ◌&&◌, List, [], ◌∷◌, ◌==◌, ◌≢◌, refl}
use Rattle.std.proofs.Common.{sym, ◌∙◌, arith}
use Rattle.std.proofs.lemmas.Bool.{eqb-true}
use Rattle.model.specs.Lists.{any_of}
use Rattle.model.specs.Net.{Channel}
use Rattle.fabric.specs.Channels.{Inside}

-- a channel goes from u to v
abbrev pub goes : ℕ → ℕ → Channel → Bool
goes u v c = c.start == u && c.finish == v

pub not_both : (a b u v : ℕ) → (a ≡ u → b ≢ v) → (a == u && b == v) ≡ false
not_both a b u v ne = by (a == u) (b == v) refl refl
  where
    by : (p q : Bool) → (a == u) ≡ p → (b == v) ≡ q → (p && q) ≡ false
    by false q e f = refl
    by true false e f = refl
    by true true e f = absurd (ne (eqb-true a u e) (eqb-true b v f))

-- no channel joins a switch to itself
pub loopless : (n : ℕ) (cs : List Channel) (u : ℕ) → Inside n cs → any_of (goes u u) cs ≡ false
loopless n [] u i = refl
loopless n (c ∷ cs) u i = simp (not_both c.start c.finish u u (λ p q. (i 0 (omega arith)).2 (p ∙ sym q)), loopless n cs u (λ k h. i (suc k) (omega arith)))

-- there are no more switches than a graph may have nodes
pub few_switches : (n : ℕ) → 2 ≤ n → n ≤ 32 → (1 ≤ n) × (n ≤ 128)
few_switches n enough few = (omega arith, omega arith)
