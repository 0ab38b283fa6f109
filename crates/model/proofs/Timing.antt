-- The time argument, over an abstract lane: every slot has room again in time, and every parcel is delivered in time.
use Rattle.std.proofs.Common.{◌≡◌, ℕ, zero, suc, ◌+◌, ◌-◌, ◌<◌, ◌≤◌, ◌⊎◌, List, [], ◌∷◌, refl, inl, inr, arith}
use Rattle.model.specs.Waits.{turn_cost, pass_cost, total}

-- One turn of k more costs one time through the slot, and the round in which the grant is made.
turn_more : (k h : ℕ) → turn_cost (suc k) h ≡ suc h + turn_cost k h
turn_more k h = omega arith

turn_pass : (k h : ℕ) → turn_cost k h ≤ pass_cost k h
turn_pass k h = omega arith

-- A lane of n channels over time: parcels X stand at places Q, and channel c has k c positions and hold H c.
pub record Lane (X Q : Type 0) (n : ℕ) (k H : ℕ → ℕ) : Type 1 where
  -- The slot of a channel; at time t parcel x is first at a place, and the slot of channel c has room; call t serves it; call t delivers x.
  pub slot : ℕ → Q
  pub First : Q → X → ℕ → Type 0
  pub Room : ℕ → ℕ → Type 0
  pub Serves : ℕ → ℕ → Type 0
  pub Delivers : X → ℕ → Type 0
  -- At time t parcel x waits at a place for channel c, and the turn mark is e positions before it.
  pub Awaits : Q → ℕ → X → ℕ → ℕ → Type 0
  -- What parcel x still has ahead on channel c; a dependency; every chain of dependencies from c is shorter than m.
  pub Ahead : ℕ → X → List ℕ → Type 0
  pub Leads : ℕ → ℕ → Type 0
  pub Ends : ℕ → ℕ → Type 0
  -- A parcel that waits is granted, or the mark comes nearer, or it waits on, and room stays and is not served.
  pub waiting : (q : Q) (c : ℕ) (x : X) (t e : ℕ) → Awaits q c x t e
      → (First (slot c) x (suc t) × ((b : ℕ) → q ≡ slot b → Room b (suc t)))
      ⊎ (((e' : ℕ) × (e' < e) × Awaits q c x (suc t) e')
      ⊎ (Awaits q c x (suc t) e × (Room c t → Room c (suc t) × (Serves c t → ⊥))))
  -- A slot without room holds a parcel, which has something ahead or is delivered by the next serve.
  pub full : (c t : ℕ) → Room c t ⊎ ((x : X) × (ds : List ℕ) × First (slot c) x t × Ahead c x ds)
  pub last : (c t : ℕ) (x : X) → Ahead c x [] → First (slot c) x t
      → (Delivers x t × Room c (suc t)) ⊎ (First (slot c) x (suc t) × (Serves c t → ⊥))
  pub next : (c d : ℕ) (x : X) (ds : List ℕ) → Ahead c x (d ∷ ds)
      → Leads c d × (d < n) × Ahead d x ds × ((t : ℕ) → First (slot c) x t → (e : ℕ) × (e < k d) × Awaits (slot c) d x t e)
  -- A hold is at least 1 and at least the cost of a turn at each channel that follows.
  pub one : (c : ℕ) → c < n → 1 ≤ H c
  pub holds : (c d : ℕ) → Leads c d → turn_cost (k d) (H d) ≤ H c
  pub ends : (c : ℕ) → c < n → (m : ℕ) × Ends m c
  pub shorter : (m c d : ℕ) → Ends m c → Leads c d → (m' : ℕ) × (m' < m) × Ends m' d

module _ {X Q : Type 0} {n : ℕ} {k H : ℕ → ℕ} (L : Lane X Q n k H) where
  module _ (q : Q) (c : ℕ) (x : X) where
    -- Fewer than m positions.
    abbrev Near : ℕ → ℕ → Type 0
    Near t m = (e : ℕ) × (e < m) × L.Awaits q c x t e

    abbrev Granted : ℕ → Type 0
    Granted t = L.First (L.slot c) x (suc t) × ((b : ℕ) → q ≡ L.slot b → L.Room b (suc t))

    abbrev By : ℕ → ℕ → Type 0
    By t T = (u : ℕ) × (t ≤ u) × (u < T) × Granted u

    widen : (t t' T T' : ℕ) → t' ≤ t → T ≤ T' → By t T → By t' T'
    widen t t' T T' a b h = (h.0, omega arith, omega arith, h.3)

    tick : (t m : ℕ) → Near t (suc m)
        → Granted t ⊎ (Near (suc t) m ⊎ (Near (suc t) (suc m) × (L.Room c t → L.Room c (suc t) × (L.Serves c t → ⊥))))
    tick t m w = elim (L.waiting q c x t w.0 w.2) [
      | inl g ↦ inl g
      | inr (inl v) ↦ inr (inl (v.0, omega arith, v.2))
      | inr (inr v) ↦ inr (inr ((w.0, w.1, v.0), v.1))
    ]

    -- Granted from t on, or still waiting at T.
    abbrev Way : ℕ → ℕ → ℕ → Type 0
    Way t T m = By t T ⊎ Near T m

    later : (t t' T m : ℕ) → t' ≤ t → Way t T m → Way t' T m
    later t t' T m p (inl h) = inl (widen t t' T T p (omega arith) h)
    later t t' T m p (inr w) = inr w

    keeps : (d t T m : ℕ) → T ≡ t + d → Near t m → Way t T m
    keeps zero t T m e w = let q : t ≡ T = omega arith in inr (rw q at w)
    keeps (suc d) t T zero e w = absurd (omega arith)
    keeps (suc d) t T (suc m) e w = elim (tick t m w) [
      | inl g ↦ inl (t, omega arith, omega arith, g)
      | inr (inl v) ↦ later (suc t) t T (suc m) (omega arith) (keeps d (suc t) T (suc m) (omega arith) (v.0, omega arith, v.2))
      | inr (inr v) ↦ later (suc t) t T (suc m) (omega arith) (keeps d (suc t) T (suc m) (omega arith) v.0)
    ]

    -- While there is room, the next serve grants.
    grants : (d t T m : ℕ) → T ≡ t + d → Near t (suc m) → L.Room c t → L.Serves c T → Way t (suc T) m
    grants zero t T m e w r s =
        let q : T ≡ t = omega arith in
        let s' : L.Serves c t = rw q at s in
        elim (tick t m w) [
          | inl g ↦ inl (t, omega arith, omega arith, g)
          | inr (inl v) ↦ inr (rw q v)
          | inr (inr v) ↦ absurd ((v.1 r).1 s')
        ]
    grants (suc d) t T m e w r s = elim (tick t m w) [
      | inl g ↦ inl (t, omega arith, omega arith, g)
      | inr (inl v) ↦ later (suc t) t (suc T) m (omega arith) (keeps (suc d) (suc t) (suc T) m (omega arith) v)
      | inr (inr v) ↦ later (suc t) t (suc T) m (omega arith) (grants d (suc t) T m (omega arith) v.0 (v.1 r).0 s)
    ]

    -- There is room at e, and a serve at s, both in the stretch from t to T.
    block : (t e s T m : ℕ) → t ≤ e → e ≤ s → s < T → Near t (suc m) → L.Room c e → L.Serves c s → Way t T m
    block t e s T m te es sT w r v = first (keeps (e - t) t e (suc m) (omega arith) w)
      where
        second : Way e (suc s) m → Way t T m
        second (inl g) = inl (widen e t (suc s) T te sT g)
        second (inr w') = later (suc s) t T m (omega arith) (keeps (T - suc s) (suc s) T m (omega arith) w')

        first : Way t e (suc m) → Way t T m
        first (inl g) = inl (widen t t e T (omega arith) (omega arith) g)
        first (inr w') = second (grants (s - e) e s m (omega arith) w' r v)

  -- R rounds: round i is the calls from b i up to b (suc i).
  module _ (b : ℕ → ℕ) (R : ℕ) (climbs : (i j : ℕ) → i ≤ j → j ≤ R → b i ≤ b j)
      (rounds : (c : ℕ) → c < n → (i : ℕ) → i < R → (s : ℕ) × (b i ≤ s) × (s < b (suc i)) × L.Serves c s) where
    -- In any H c of the rounds there is room at some time.
    abbrev Clears : ℕ → Type 0
    Clears c = (i : ℕ) → i + H c ≤ R → (e : ℕ) × (b i ≤ e) × (e ≤ b (i + H c)) × L.Room c e

    module _ (q : Q) (c : ℕ) (x : X) (cn : c < n) (clears : Clears c) where
      granted : (m i : ℕ) → i + turn_cost m (H c) ≤ R → Near q c x (b i) m → By q c x (b i) (b (i + turn_cost m (H c)))
      granted zero i h w = absurd (omega arith)
      granted (suc m) i h w =
          let more = turn_more m (H c) in
          let T : ℕ = i + turn_cost (suc m) (H c) in
          let e = clears i (omega arith) in
          let s = rounds c cn (i + H c) (omega arith) in
          let j : ℕ = suc (i + H c) in
          let z : T ≡ j + turn_cost m (H c) = omega arith in
          elim (block q c x (b i) e.0 s.0 (b j) m e.1 (omega arith) s.2 w e.3 s.3) [
            | inl v ↦ widen q c x (b i) (b i) (b j) (b T) (omega arith) (climbs j T (omega arith) h) v
            | inr w' ↦ rw z (widen q c x (b j) (b i) (b (j + turn_cost m (H c))) (b (j + turn_cost m (H c)))
                (climbs i j (omega arith) (omega arith)) (omega arith) (granted m j (omega arith) w'))
          ]

      -- What waits at time t, before round i, is granted after that round and before the next turn_cost.
      goes : (t i : ℕ) → t ≤ b i → i + turn_cost (k c) (H c) ≤ R → Near q c x t (k c) → By q c x t (b (i + turn_cost (k c) (H c)))
      goes t i ti iR w =
          let j : ℕ = i + turn_cost (k c) (H c) in
          elim (keeps q c x (b i - t) t (b i) (k c) (omega arith) w) [
            | inl v ↦ widen q c x t t (b i) (b j) (omega arith) (climbs i j (omega arith) iR) v
            | inr v ↦ widen q c x (b i) t (b j) (b j) ti (omega arith) (granted (k c) i iR v)
          ]

    -- What has nothing ahead is delivered by the end of a round.
    module _ (c : ℕ) (x : X) (cn : c < n) (none : L.Ahead c x []) where
      Handed : ℕ → ℕ → Type 0
      Handed t T = (u : ℕ) × (t ≤ u) × (u < T) × L.Delivers x u × L.Room c (suc u)

      lasts : (d t T : ℕ) → T ≡ t + d → L.First (L.slot c) x t → Handed t T ⊎ L.First (L.slot c) x T
      unfolding Handed
      lasts zero t T e h = let z : t ≡ T = omega arith in inr (rw z at h)
      lasts (suc d) t T e h = elim (L.last c t x none h) [
        | inl v ↦ inl (t, omega arith, omega arith, v.0, v.1)
        | inr v ↦ elim (lasts d (suc t) T (omega arith) v.0) [
          | inl w ↦ inl (w.0, omega arith, w.2, w.3, w.4)
          | inr w ↦ inr w
        ]
      ]

      handed : (t i : ℕ) → t ≤ b i → i < R → L.First (L.slot c) x t → Handed t (b (suc i))
      unfolding Handed
      handed t i ti iR h =
          let s = rounds c cn i iR in
          elim (lasts (s.0 - t) t s.0 (omega arith) h) [
            | inl w ↦ (w.0, w.1, omega arith, w.3, w.4)
            | inr w ↦ elim (L.last c s.0 x none w) [
              | inl v ↦ (s.0, omega arith, s.2, v.0, v.1)
              | inr v ↦ absurd (v.1 s.3)
            ]
          ]

    clear_step : (c : ℕ) → c < n → ((d : ℕ) → L.Leads c d → d < n → Clears d) → Clears c
    unfolding Handed
    clear_step c cn ih i iR = elim (L.full c (b i)) [
      | inl r ↦ (b i, omega arith, climbs i (i + H c) (omega arith) iR, r)
      | inr w ↦ go w.0 w.1 w.2 w.3
    ]
      where
        go : (x : X) (ds : List ℕ) → L.First (L.slot c) x (b i) → L.Ahead c x ds → (e : ℕ) × (b i ≤ e) × (e ≤ b (i + H c)) × L.Room c e
        go x [] h a =
            let o = L.one c cn in
            let v = handed c x cn a (b i) i (omega arith) (omega arith) h in
            let z = climbs (suc i) (i + H c) (omega arith) iR in
            (suc v.0, omega arith, omega arith, v.4)
        go x (d ∷ ds) h a =
            let w = L.next c d x ds a in
            let m = L.holds c d w.0 in
            let v = goes (L.slot c) d x w.1 (ih d w.0 w.1) (b i) i (omega arith) (omega arith) (w.3 (b i) h) in
            let z = climbs (i + turn_cost (k d) (H d)) (i + H c) (omega arith) iR in
            (suc v.0, omega arith, omega arith, v.3.1 c refl)

    clear : (l m c : ℕ) → m < l → L.Ends m c → c < n → Clears c
    clear zero m c h e cn = absurd (omega arith)
    clear (suc l) m c h e cn = clear_step c cn (λ d k dn. let w = L.shorter m c d e k in clear l w.0 d (omega arith) w.2 dn)

    clears : (c : ℕ) → c < n → Clears c
    clears c cn = let e = L.ends c cn in clear (suc e.0) e.0 c (omega arith) e.1 cn

    abbrev passes : List ℕ → ℕ
    passes ds = total (λ c. pass_cost (k c) (H c)) ds

    abbrev Delivered : ℕ → ℕ → X → Type 0
    Delivered t T x = (u : ℕ) × (t ≤ u) × (u < T) × L.Delivers x u

    abbrev Travels : List ℕ → Type 0
    Travels ds = (c : ℕ) (x : X) (t i : ℕ) → L.Ahead c x ds → c < n → t ≤ b i → i + (1 + passes ds) ≤ R
        → L.First (L.slot c) x t → Delivered t (b (i + (1 + passes ds))) x

    begins_so : (ds : List ℕ) → Travels ds → (q : Q) (c : ℕ) (x : X) (t i : ℕ) → L.Ahead c x ds → c < n → t ≤ b i
        → i + (1 + passes (c ∷ ds)) ≤ R → Near q c x t (k c) → Delivered t (b (i + (1 + passes (c ∷ ds)))) x
    begins_so ds on q c x t i a cn ti iR w =
        let p = turn_pass (k c) (H c) in
        let j : ℕ = i + pass_cost (k c) (H c) in
        let v = goes q c x cn (clears c cn) t i ti (omega arith) w in
        let z = climbs (i + turn_cost (k c) (H c)) j (omega arith) (omega arith) in
        let r = on c x (suc v.0) j a cn (omega arith) (omega arith) v.3.0 in
        let e : i + (1 + passes (c ∷ ds)) ≡ j + (1 + passes ds) = omega arith in
        rw e (r.0, omega arith, r.2, r.3)

    -- From the slot of a channel on.
    pub travels : (ds : List ℕ) (c : ℕ) (x : X) (t i : ℕ) → L.Ahead c x ds → c < n → t ≤ b i → i + (1 + passes ds) ≤ R
        → L.First (L.slot c) x t → Delivered t (b (i + (1 + passes ds))) x
    unfolding Handed
    travels [] c x t i a cn ti iR h =
        let v = handed c x cn a t i ti (omega arith) h in
        let z : i + (1 + 0) ≡ suc i = omega arith in
        rw z (v.0, v.1, v.2, v.3)
    travels (d ∷ ds) c x t i a cn ti iR h =
        let w = L.next c d x ds a in
        begins_so ds (travels ds) (L.slot c) d x t i w.2 w.1 ti iR (w.3 t h)

    -- From before the first channel on.
    pub begins : (ds : List ℕ) (q : Q) (c : ℕ) (x : X) (t i : ℕ) → L.Ahead c x ds → c < n → t ≤ b i → i + (1 + passes (c ∷ ds)) ≤ R
        → (e : ℕ) × (e < k c) × L.Awaits q c x t e → Delivered t (b (i + (1 + passes (c ∷ ds)))) x
    begins ds = begins_so ds (travels ds)
