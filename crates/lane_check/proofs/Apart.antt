-- A fabric has few channels; each ends where it does not start, so none leads to itself in a lane.
use Rattle.std.proofs.Common.{◌≡◌, ℕ, zero, suc, ◌-◌, ◌<◌, ◌≤◌, false, List, [], ◌∷◌, ◌++◌, Some, None, vec_items, Option, refl, ap, ◌∙◌, subst, inl, inr, arith}
use Rattle.std.proofs.lemmas.Bool.{cases_Bool}
use Rattle.model.specs.Net.{Net, count, start_of, finish_of}
use Rattle.model.specs.Rules.{Rule}
use Rattle.model.specs.Routes.{hop, walk, has, lane_deps}
use Rattle.model.proofs.Walking.{leaves_parts, hop_some}
use Rattle.model.proofs.Dependencies.{depends_on}
use Rattle.fabric.specs.Channels.{Inside}
use Rattle.fabric.specs.Of.{net}
use Rattle.fabric.specs.declared.network.Fabric.{Fabric}
use Rattle.fabric.proofs.Feeders.{count_over}

pub few_channels : (f : Fabric) → (1 ≤ count (net f)) × (count (net f) ≤ 128)
few_channels f = let e = count_over f.switches (vec_items f.channels) in let s = f.sizes in (omega arith, omega arith)

module _ (net : Net) (rule : Rule) where
  -- A walk's first channel leaves the switch where it begins.
  walk_head : (k u d c : ℕ) (cs : List ℕ) → walk net rule k u d ≡ c ∷ cs → (c < count net) × (start_of net c ≡ u)
  walk_head zero u d c cs e = let z : ◌≡◌ {A = ℕ} 0 1 = cc in absurd (omega arith)
  walk_head (suc k) u d c cs e = go (hop net rule u d) refl e
    where
      go : (m : Option ℕ) → hop net rule u d ≡ m → (elim m as (λ _. List ℕ) [ None ↦ [] | Some x ↦ x ∷ walk net rule k (finish_of net x) d ]) ≡ c ∷ cs
          → (c < count net) × (start_of net c ≡ u)
      go None h w = let z : ◌≡◌ {A = ℕ} 0 1 = cc in absurd (omega arith)
      go (Some x) h w =
          let q : x ≡ c = cc in subst (λ (z : ℕ). (z < count net) × (start_of net z ≡ u)) q (leaves_parts net x u (hop_some net rule u d x h).2)

  -- The channel after b leaves the switch where b ends.
  walk_meets : (k u d b c : ℕ) (pre post : List ℕ) → walk net rule k u d ≡ pre ++ (b ∷ (c ∷ post))
      → (b < count net) × (start_of net c ≡ finish_of net b)
  walk_meets zero u d b c [] post e = let z : ◌≡◌ {A = ℕ} 0 1 = cc in absurd (omega arith)
  walk_meets zero u d b c (x ∷ pre) post e = let z : ◌≡◌ {A = ℕ} 0 1 = cc in absurd (omega arith)
  walk_meets (suc k) u d b c pre post e = go (walk_meets k) (hop net rule u d) refl pre e
    where
      go : ((u d b c : ℕ) (pre post : List ℕ) → walk net rule k u d ≡ pre ++ (b ∷ (c ∷ post)) → (b < count net) × (start_of net c ≡ finish_of net b))
          → (m : Option ℕ) → hop net rule u d ≡ m
          → (pre : List ℕ) → (elim m as (λ _. List ℕ) [ None ↦ [] | Some x ↦ x ∷ walk net rule k (finish_of net x) d ]) ≡ pre ++ (b ∷ (c ∷ post))
          → (b < count net) × (start_of net c ≡ finish_of net b)
      go ih None h [] w = let z : ◌≡◌ {A = ℕ} 0 1 = cc in absurd (omega arith)
      go ih None h (y ∷ pre) w = let z : ◌≡◌ {A = ℕ} 0 1 = cc in absurd (omega arith)
      go ih (Some x) h [] w =
          let q : x ≡ b = cc in
          let r : walk net rule k (finish_of net x) d ≡ c ∷ post = cc in
          let l = leaves_parts net x u (hop_some net rule u d x h).2 in
          let t = walk_head k (finish_of net x) d c post r in
          (subst (λ (z : ℕ). z < count net) q l.0, t.1 ∙ ap (finish_of net) q)
      go ih (Some x) h (y ∷ pre) w = let r : walk net rule k (finish_of net x) d ≡ pre ++ (b ∷ (c ∷ post)) = cc in ih (finish_of net x) d b c pre post r

  pub lane_apart : Inside net.switches net.channels → (ℓ c : ℕ) → has (lane_deps net rule ℓ) c c ≡ false
  lane_apart inside ℓ c =
      elim (cases_Bool (has (lane_deps net rule ℓ) c c)) [
        | inl e ↦
            let r = depends_on net rule ℓ c c e in
            let m = walk_meets (net.switches - 1) r.source r.destination c c r.pre r.post r.way in
            absurd ((inside c m.0).2 m.1)
        | inr e ↦ e
      ]
