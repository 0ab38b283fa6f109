-- Rules that agree on channels have the same walks and ways, whatever their lanes.
use Rattle.std.proofs.Common.{◌≡◌, ℕ, zero, suc, ◌-◌, cond, eqb, List, [], ◌∷◌, Some, None, Option, sym, refl, ap, ◌∙◌}
use Rattle.model.specs.Net.{Net, finish_of}
use Rattle.model.specs.Rules.{Rule}
use Rattle.model.specs.Routes.{Way, home, onto, Arrives, fit, hop, walk, route}

module _ (net : Net) (rule rule' : Rule) (same : (u d : ℕ) → rule.next u d ≡ rule'.next u d) where
  walk_same : (k u d : ℕ) → walk net rule k u d ≡ walk net rule' k u d
  walk_same zero u d = refl
  walk_same (suc k) u d =
      ap (λ (m : Option ℕ). elim m as (λ _. List ℕ) [ None ↦ [] | Some c ↦ c ∷ walk net rule k (finish_of net c) d ])
      (ap (λ (m : Option ℕ). cond (eqb u d) None (fit net u m)) (same u d))
      ∙ go (λ c. walk_same k (finish_of net c) d) (hop net rule' u d)
    where
      go : ((c : ℕ) → walk net rule k (finish_of net c) d ≡ walk net rule' k (finish_of net c) d) → (m : Option ℕ)
          → (elim m as (λ _. List ℕ) [ None ↦ [] | Some c ↦ c ∷ walk net rule k (finish_of net c) d ])
          ≡ (elim m as (λ _. List ℕ) [ None ↦ [] | Some c ↦ c ∷ walk net rule' k (finish_of net c) d ])
      go ih None = refl
      go ih (Some c) = ap (λ (z : List ℕ). c ∷ z) (ih c)

  pub route_same : (s d : ℕ) → route net rule s d ≡ route net rule' s d
  route_same s d = walk_same (net.switches - 1) s d

  way_next : (d u : ℕ) (cs : List ℕ) → Way net rule d u cs → Way net rule' d u cs
  way_next d u [] home = home
  way_next d u (c ∷ cs) (onto ne e lt st w) = onto ne (sym (same u d) ∙ e) lt st (way_next d (finish_of net c) cs w)

  pub arrives_same : (s d : ℕ) → Arrives net rule s d → Arrives net rule' s d
  arrives_same s d a = record { way = a.way; goes = way_next d s a.way a.goes; short = a.short }
