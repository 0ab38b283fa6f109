-- The planner's hop count is the fewest channels of a walk: a walk can be cut to fewer edges than there are nodes.
use Rattle.std.proofs.Common.{◌≡◌, ℕ, zero, suc, ◌<◌, ◌≤◌, Bool, true, false, ◌&&◌, eqb, ◌⊎◌, List, length, get_or, Some, None, Option, sym, refl, subst, inl, inr, arith}
use Rattle.std.proofs.lemmas.Bool.{and_parts, and_from, eqb-true, eq-eqb, both_ways, false≢true, cases_lt, cases_eq}
use Rattle.model.specs.Lists.{below, any_of, is_in, without}
use Rattle.model.specs.Net.{Net, Channel, nowhere, count, start_of, finish_of, joins}
use Rattle.model.specs.Planner.{within, hops}
use Rattle.model.specs.Walks.{Walk, Fewest}
use Rattle.model.specs.Laws.{HopsExact}
use Rattle.model.proofs.Members.{any_at, first_passes, first_in, first_none, first_before, is_in_below, below_in, length-up_from, without_in, without_from, without_fewer}

module _ (e : ℕ → ℕ → Bool) (n a : ℕ) where
  -- A walk from a to b whose nodes before b are all in a list.
  abbrev Path : List ℕ → ℕ → ℕ → Type 0
  Path nodes zero b = a ≡ b
  Path nodes (suc k) b = (m : ℕ) × (is_in m nodes ≡ true) × Path nodes k m × (e m b ≡ true)

  walk_path : (j b : ℕ) → Walk e n a j b → Path (below n) j b
  walk_path zero b w = w
  walk_path (suc j) b (m, l, w, h) = (m, is_in_below n m l, walk_path j m w, h)

  -- Either none of the nodes before b is c, or there is such a walk to c.
  cut : (c : ℕ) (nodes : List ℕ) (j b : ℕ) → Path nodes j b
      → ((i : ℕ) × Path (without c nodes) i b) ⊎ ((i : ℕ) × Path (without c nodes) i c)
  cut c nodes zero b w = inl (zero, w)
  cut c nodes (suc j) b (m, l, w, h) =
      elim (cut c nodes j m w) [
        | inl r ↦
            elim (cases_eq m c) [
              | inl q ↦ inr (r.0, subst (Path (without c nodes) r.0) q r.1)
              | inr ne ↦ inl (suc r.0, (m, without_in c nodes m l ne, r.1, h))
            ]
        | inr r ↦ inr r
      ]

  once : (nodes : List ℕ) (j b : ℕ) → Path nodes j b → (i : ℕ) × Path (without b nodes) i b
  once nodes j b w = elim (cut b nodes j b w) [ inl r ↦ r | inr r ↦ r ]

  -- There is one of at most as many edges as the list has nodes.
  shorten : (k : ℕ) (nodes : List ℕ) → length nodes ≤ k → ((x : ℕ) → is_in x nodes ≡ true → x < n)
      → (j b : ℕ) → Path nodes j b → (i : ℕ) × (i ≤ k) × Walk e n a i b
  shorten k nodes l inside zero b w = (zero, omega arith, w)
  shorten zero nodes l inside (suc j) b (m, q, w, h) = let f = without_fewer m nodes q in absurd (omega arith)
  shorten (suc k) nodes l inside (suc j) b (m, q, w, h) =
      let f = without_fewer m nodes q in
      let r = once nodes j m w in
      let s = shorten k (without m nodes) (omega arith) (λ x i. inside x (without_from m nodes x i).0) r.0 m r.1 in
      (suc s.0, omega arith, (m, inside m q, s.2, h))

  shorter : (j b : ℕ) → b < n → Walk e n a j b → (i : ℕ) × (i < n) × Walk e n a i b
  shorter j b l w =
      let nodes = without b (below n) in
      let r = once (below n) j b (walk_path j b w) in
      let s =
      shorten (length nodes) nodes (omega arith) (λ x i. below_in n x (without_from b (below n) x i).0) r.0 b r.1 in
      let f = without_fewer b (below n) (is_in_below n b l) in
      let c = length-up_from n 0 in
      (s.0, omega arith, s.2)

-- A walk with one more edge at its start.
pub walk_after : (e : ℕ → ℕ → Bool) (n u v : ℕ) → u < n → e u v ≡ true → (j b : ℕ) → Walk e n v j b → Walk e n u (suc j) b
walk_after e n u v l h zero b w = (u, l, refl, subst (λ (z : ℕ). e u z ≡ true) w h)
walk_after e n u v l h (suc j) b (m, q, w, g) = (m, q, walk_after e n u v l h j m w, g)

module _ (net : Net) (d : ℕ) where
  -- d is reached from u over at most k channels, and so over channel c and k more.
  abbrev reach : ℕ → ℕ → Bool
  reach k u = within net.channels k u d

  abbrev onto : ℕ → ℕ → Channel → Bool
  onto k u c = elim (eqb c.start u) [ true ↦ reach k c.finish | false ↦ false ]

  reach_here : (k u : ℕ) → u ≡ d → reach k u ≡ true
  reach_here zero u q = eq-eqb u d q
  reach_here (suc k) u q =
      subst (λ (b : Bool). (elim b as (λ _. Bool) [ true ↦ true | false ↦ any_of (onto k u) net.channels ]) ≡ true)
      (sym (eq-eqb u d q)) refl

  reach_over : (k u v : ℕ) → joins net u v ≡ true → reach k v ≡ true → reach (suc k) u ≡ true
  reach_over k u v h w = go (eqb u d)
    where
      go : (b : Bool) → (elim b as (λ _. Bool) [ true ↦ true | false ↦ any_of (onto k u) net.channels ]) ≡ true
      go true = refl
      go false =
          let r = any_at nowhere (λ c. eqb c.start u && eqb c.finish v) net.channels h in
          let c = get_or net.channels r.0 nowhere in
          let p = and_parts (eqb c.start u) (eqb c.finish v) r.2 in
          r.3 (onto k u)
          (subst (λ (b : Bool). (elim b as (λ _. Bool) [ true ↦ reach k c.finish | false ↦ false ]) ≡ true) (sym p.0)
          (subst (λ (z : ℕ). reach k z ≡ true) (sym (eqb-true c.finish v p.1)) w))

  -- A channel leads from u to where d is reached over k more.
  abbrev Over : ℕ → ℕ → Type 0
  Over k u = (i : ℕ) × (i < count net) × (joins net u (finish_of net i) ≡ true) × (reach k (finish_of net i) ≡ true)

  reach_cases : (k u : ℕ) → reach (suc k) u ≡ true → (u ≡ d) ⊎ Over k u
  reach_cases k u h = go (eqb u d) refl h
    where
      at : (i : ℕ) → i < count net → ((f : Channel → Bool) → f (get_or net.channels i nowhere) ≡ true → any_of f net.channels ≡ true)
          → (b : Bool) → eqb (start_of net i) u ≡ b → (elim b as (λ _. Bool) [ true ↦ reach k (finish_of net i) | false ↦ false ]) ≡ true
          → Over k u
      at i l any true s w =
          let v = finish_of net i in
          (i, l, any (λ c. eqb c.start u && eqb c.finish v) (and_from (eqb (start_of net i) u) (eqb v v) s (eq-eqb v v refl)), w)
      at i l any false s w = absurd (false≢true w)

      go : (b : Bool) → eqb u d ≡ b → (elim b as (λ _. Bool) [ true ↦ true | false ↦ any_of (onto k u) net.channels ]) ≡ true
          → (u ≡ d) ⊎ Over k u
      go true q h' = inl (eqb-true u d q)
      go false q h' =
          let r = any_at nowhere (onto k u) net.channels h' in inr (at r.0 r.1 r.3 (eqb (start_of net r.0) u) refl r.2)

-- Where m is reached over k channels and one channel leads on to d, d is reached over one more.
reach_more : (net : Net) (d m : ℕ) → joins net m d ≡ true → (k u : ℕ) → reach net m k u ≡ true → reach net d (suc k) u ≡ true
reach_more net d m h zero u w =
    reach_over net d zero u d (subst (λ (z : ℕ). joins net z d ≡ true) (sym (eqb-true u m w)) h) (reach_here net d zero d refl)
reach_more net d m h (suc k) u w =
    elim (reach_cases net m k u w) [
      | inl q ↦ reach_over net d (suc k) u d (subst (λ (z : ℕ). joins net z d ≡ true) (sym q) h) (reach_here net d (suc k) d refl)
      | inr r ↦ reach_over net d (suc k) u (finish_of net r.0) r.2 (reach_more net d m h k (finish_of net r.0) r.3)
    ]

-- What a walk leads to is reached over as many channels, and what is reached has a walk.
walk_reach : (net : Net) (u j d : ℕ) → Walk (joins net) net.switches u j d → reach net d j u ≡ true
walk_reach net u zero d w = eq-eqb u d w
walk_reach net u (suc j) d (m, l, w, h) = reach_more net d m h j u (walk_reach net u j m w)

reach_walk : (net : Net) → ((c : ℕ) → c < count net → (start_of net c < net.switches) × (finish_of net c < net.switches))
    → (d k u : ℕ) → u < net.switches → reach net d k u ≡ true → (j : ℕ) × (j ≤ k) × Walk (joins net) net.switches u j d
reach_walk net inside d zero u l w = (zero, omega arith, eqb-true u d w)
reach_walk net inside d (suc k) u l w =
    elim (reach_cases net d k u w) [
      | inl q ↦ (zero, omega arith, q)
      | inr r ↦
          let v = finish_of net r.0 in
          let s = reach_walk net inside d k v (inside r.0 r.1).1 r.3 in
          (suc s.0, omega arith, walk_after (joins net) net.switches u v l r.2 s.0 d s.2)
    ]

pub hops_exact_lem : HopsExact
hops_exact_lem net inside u d lu ld = go (hops net u d) refl
  where
    go : (m : Option ℕ) → hops net u d ≡ m → Fewest (joins net) net.switches u d m
    go None e = λ _ _ j w.
        let n = net.switches in
        let s = shorter (joins net) n u j d ld w in
        both_ways (reach net d s.0 u) (first_none (λ k. reach net d k u) (below n) e s.0 (is_in_below n s.0 s.1))
        (walk_reach net u s.0 d s.2)
    go (Some k) e =
        let n = net.switches in
        let below_fails = first_before (λ k. reach net d k u) n 0 k e in
        let least : (j : ℕ) → Walk (joins net) n u j d → k ≤ j =
        λ j w. elim (cases_lt j k) [
          | inl l ↦ absurd (both_ways (reach net d j u) (below_fails j (omega arith) l) (walk_reach net u j d w))
          | inr l ↦ l
        ] in
        let r = reach_walk net inside d k u lu (first_passes (λ k. reach net d k u) (below n) k e) in
        let q : r.0 ≡ k = omega (arith, least r.0 r.2) in
        let small = below_in n k (first_in (λ k. reach net d k u) (below n) k e) in
        (lu, ld, small, subst (λ (j : ℕ). Walk (joins net) n u j d) q r.2, least)
