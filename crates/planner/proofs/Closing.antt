-- Edges added to a graph without cycles.
use Rattle.std.proofs.Common.{◌≡◌, ℕ, zero, suc, ◌<◌, Bool, true, ◌&&◌, ◌||◌, eqb, ◌⊎◌, sym, subst, inl, inr}
use Rattle.std.proofs.lemmas.Bool.{eqb-true, and_parts, or_cases}
use Rattle.model.specs.Walks.{Walk}
use Rattle.planner.specs.Cycles.{Acyclic, Reach, only}

-- Among n nodes every edge of E is one of F.
abbrev pub Within : (ℕ → ℕ → Bool) → (ℕ → ℕ → Bool) → ℕ → Type 0
Within E F n = (b c : ℕ) → b < n → c < n → E b c ≡ true → F b c ≡ true

pub walk_more : (E F : ℕ → ℕ → Bool) (n : ℕ) → Within E F n → (a k b : ℕ) → b < n → Walk E n a k b → Walk F n a k b
walk_more E F n h a zero b hb w = w
walk_more E F n h a (suc k) b hb w = (w.0, w.1, walk_more E F n h a k w.0 w.1 w.2, h w.0 b w.1 hb w.3)

pub acyclic_less : (E F : ℕ → ℕ → Bool) (n : ℕ) → Within E F n → Acyclic F n → Acyclic E n
acyclic_less E F n h A a k ha w = A a k ha (walk_more E F n h a (suc k) a ha w)

reach_join : (E : ℕ → ℕ → Bool) (n a m k b : ℕ) → Reach E n a m → Walk E n m k b → Reach E n a b
reach_join E n a m zero b r w = subst (λ (x : ℕ). Reach E n a x) w r
reach_join E n a m (suc k) b r w = let i = reach_join E n a m k w.0 r w.2 in (suc i.0, (w.0, w.1, i.1, w.3))

module _ (E : ℕ → ℕ → Bool) (n c e : ℕ) where
  abbrev plus : ℕ → ℕ → Bool
  plus b x = E b x || only c e b x

  -- A walk with the edge from c to e added goes without it, or leads to c and on from e.
  split : (a k b : ℕ) → Walk plus n a k b → Walk E n a k b ⊎ (Reach E n a c × Reach E n e b)
  split a zero b w = inl w
  split a (suc k) b w =
      let i = split a k w.0 w.2 in
      elim (or_cases (E w.0 b) (eqb c w.0 && eqb e b) w.3) [
        | inl q ↦ elim i [ inl v ↦ inl (w.0, w.1, v, q) | inr v ↦ inr (v.0, (suc v.1.0, (w.0, w.1, v.1.1, q))) ]
        | inr q ↦
            let p = and_parts (eqb c w.0) (eqb e b) q in
            let m : w.0 ≡ c = sym (eqb-true c w.0 p.0) in
            let last : Reach E n e b = (0, eqb-true e b p.1) in
            elim i [ inl v ↦ inr ((k, subst (λ (x : ℕ). Walk E n a k x) m v), last) | inr v ↦ inr (v.0, last) ]
      ]

  pub acyclic_plus : Acyclic E n → (Reach E n e c → ⊥) → Acyclic (λ b x. E b x || only c e b x) n
  acyclic_plus A none a k ha w =
      elim (split a (suc k) a w) [ inl v ↦ A a k ha v | inr v ↦ none (reach_join E n e a v.0.0 c v.1 v.0.1) ]

  -- A way back closes.
  pub closes : c < n → e < n → Reach E n e c → E c e ≡ true → Acyclic E n → ⊥
  closes hc he r h A = A e r.0 he (c, hc, r.1, h)
