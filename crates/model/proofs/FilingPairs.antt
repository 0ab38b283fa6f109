-- Filing the pairs one after the other: what each lane holds after the pairs below a place, one more pair, and all of them.
use Rattle.std.proofs.Common.{◌≡◌, ℕ, zero, suc, ◌+◌, ◌*◌, ◌<◌, Bool, true, false, ◌⊎◌, List, [], ◌∷◌, ◌++◌, length, get_or, set, replicate, Some, None, Option, sym, refl, ap, ◌∙◌, subst, inl, inr, arith}
use Rattle.std.proofs.lemmas.List.{length-set, length-replicate, get_or-replicate, get_or-set_same, get_or-set_other}
use Rattle.std.proofs.lemmas.Bool.{false≢true, cases_eq}
use Rattle.model.specs.Net.{Net, count, is_pair}
use Rattle.model.specs.Refusals.{Refusal, refuse, topology_layer}
use Rattle.model.specs.Rules.{Rule}
use Rattle.model.specs.Routes.{Pair, Edge, pairs_of, steps, has, route}
use Rattle.model.specs.Order.{completes}
use Rattle.model.specs.Planner.{Planned, tables, refused, fits_at, file_from}
use Rattle.model.proofs.Members.{none_some, Some-inj}
use Rattle.model.proofs.EdgeSets.{Exactly, exactly_same, exactly_from, exactly_append, completes_same, completes_none}
use Rattle.model.proofs.PairPlaces.{UpTo, up_to_skip, up_to_more, up_to_none, place_in, place_same, place_apart, on_pairs_lem}

-- The lane found is the lowest that stays without a cycle, and if none is found no lane does.
module _ (n : ℕ) (new : List Edge) where
  abbrev pub stays : List (List Edge) → ℕ → Bool
  stays ess m = completes n (new ++ get_or ess m [])

  abbrev Found : ℕ → List (List Edge) → ℕ → Type 0
  Found i ess j =
      (r : ℕ) × (j ≡ i + r) × (r < length ess) × (stays ess r ≡ true) × ((m : ℕ) → m < r → stays ess m ≡ false)

  fits_from : (i : ℕ) (ess : List (List Edge)) (j : ℕ) → fits_at n new i ess ≡ Some j → Found i ess j
  fits_from i [] j e = none_some j e
  fits_from i (es ∷ ess) j e = go (fits_from (suc i) ess j) (completes n (new ++ es)) refl e
    where
      go : (fits_at n new (suc i) ess ≡ Some j → Found (suc i) ess j) → (b : Bool) → completes n (new ++ es) ≡ b
          → (elim b as (λ _. Option ℕ) [ true ↦ Some i | false ↦ fits_at n new (suc i) ess ]) ≡ Some j → Found i (es ∷ ess) j
      go ih true q e' = let w = Some-inj i j e' in (zero, omega arith, omega arith, q, λ m l. absurd (omega arith))
      go ih false q e' =
          let r = ih e' in
          let lower : (m : ℕ) → m < suc r.0 → stays (es ∷ ess) m ≡ false = λ m l. below m r.4 l in
          (suc r.0, omega arith, omega arith, r.3, lower)
        where
          below : {k : ℕ} (m : ℕ) → ((m : ℕ) → m < k → stays ess m ≡ false) → m < suc k → stays (es ∷ ess) m ≡ false
          below zero h l = q
          below (suc m) h l = h m (omega arith)

  pub fits_some : (ess : List (List Edge)) (i : ℕ) → fits_at n new 0 ess ≡ Some i
      → (i < length ess) × (stays ess i ≡ true) × ((m : ℕ) → m < i → stays ess m ≡ false)
  fits_some ess i e =
      let r = fits_from 0 ess i e in
      let q : r.0 ≡ i = let w = r.1 in omega arith in
      subst (λ (z : ℕ). (z < length ess) × (stays ess z ≡ true) × ((m : ℕ) → m < z → stays ess m ≡ false)) q (r.2, r.3, r.4)

  pub fits_none : (i : ℕ) (ess : List (List Edge)) → fits_at n new i ess ≡ None → (m : ℕ) → m < length ess → stays ess m ≡ false
  fits_none i [] e m l = absurd (omega arith)
  fits_none i (es ∷ ess) e m l = go (fits_none (suc i) ess) (completes n (new ++ es)) refl e m l
    where
      go : (fits_at n new (suc i) ess ≡ None → (m : ℕ) → m < length ess → stays ess m ≡ false)
          → (b : Bool) → completes n (new ++ es) ≡ b
          → (elim b as (λ _. Option ℕ) [ true ↦ Some i | false ↦ fits_at n new (suc i) ess ]) ≡ None
          → (m : ℕ) → m < length (es ∷ ess) → stays (es ∷ ess) m ≡ false
      go ih true q e' m l = none_some i (sym e')
      go ih false q e' zero l = q
      go ih false q e' (suc m) l = ih e' m (omega arith)

module _ (net : Net) (rule : Rule) where
  -- The dependencies of the pair (s, d).
  abbrev pub pair_deps : ℕ → ℕ → List Edge
  pair_deps s d = steps (route net rule s d)

  -- Lane i of a lane table has the dependency b to c by a pair at a place below k.
  pub record Held (lanes : List ℕ) (k i b c : ℕ) : Type 0 where
    pub source : ℕ
    pub destination : ℕ
    pub pair : is_pair net.switches source destination ≡ true
    pub before : source * net.switches + destination < k
    pub in_lane : get_or lanes (source * net.switches + destination) 255 ≡ i
    pub takes : has (pair_deps source destination) b c ≡ true

  -- Or the pair (s, d) itself has it.
  abbrev pub HeldWith : List ℕ → ℕ → ℕ → ℕ → ℕ → ℕ → Type 0
  HeldWith lanes s d i b c = (has (pair_deps s d) b c ≡ true) ⊎ Held lanes (s * net.switches + d) i b c

  -- Two lane tables that agree below place k.
  abbrev Agree : List ℕ → List ℕ → ℕ → Type 0
  Agree lanes lanes' k = (x : ℕ) → x < k → get_or lanes x 255 ≡ get_or lanes' x 255

  held_move : (lanes lanes' : List ℕ) (k k' i b c : ℕ) (h : Held lanes k i b c) → h.source * net.switches + h.destination < k'
      → get_or lanes' (h.source * net.switches + h.destination) 255 ≡ i → Held lanes' k' i b c
  held_move lanes lanes' k k' i b c h l e =
      record { source = h.source; destination = h.destination; pair = h.pair; before = l; in_lane = e; takes = h.takes }

  held_same : (lanes lanes' : List ℕ) (k i b c : ℕ) → Agree lanes lanes' k → Held lanes k i b c → Held lanes' k i b c
  held_same lanes lanes' k i b c same h =
      held_move lanes lanes' k k i b c h h.before
      (sym (same (h.source * net.switches + h.destination) h.before) ∙ h.in_lane)

  held_with_same : (lanes lanes' : List ℕ) (s d i : ℕ) → Agree lanes lanes' (s * net.switches + d)
      → (es : List Edge) → Exactly (HeldWith lanes s d i) es → Exactly (HeldWith lanes' s d i) es
  held_with_same lanes lanes' s d i same es =
      let k = s * net.switches + d in
      exactly_from (HeldWith lanes s d i) (HeldWith lanes' s d i) es
      (λ b c. (
        λ h. elim h [ inl q ↦ inl q | inr q ↦ inr (held_same lanes lanes' k i b c same q) ],
        λ h. elim h [ inl q ↦ inl q | inr q ↦ inr (held_same lanes' lanes k i b c (λ x l. sym (same x l)) q) ],
      ))

  module _ (lane_total : ℕ) where
    -- Lane i is the lowest in which no cycle closes by the pair (s, d) with those at lower places.
    pub record LowestLane (lanes : List ℕ) (s d i : ℕ) : Type 0 where
      pub exists : i < lane_total
      pub fits : (es : List Edge) → Exactly (HeldWith lanes s d i) es → completes (count net) es ≡ true
      pub lower : (m : ℕ) → m < i → (es : List Edge) → Exactly (HeldWith lanes s d m) es → completes (count net) es ≡ false

    abbrev pub InItsLane : List ℕ → ℕ → ℕ → Type 0
    InItsLane lanes s d = LowestLane lanes s d (get_or lanes (s * net.switches + d) 255)

    -- The pairs at places below k are filed: each lane's dependencies so far, and the lane table so far.
    pub record Filing (k : ℕ) (ess : List (List Edge)) (lanes : List ℕ) : Type 0 where
      pub size : length lanes ≡ net.switches * net.switches
      pub wide : length ess ≡ lane_total
      pub whole : (i : ℕ) → i < lane_total → completes (count net) (get_or ess i []) ≡ true
      pub holds : (i : ℕ) → i < lane_total → Exactly (Held lanes k i) (get_or ess i [])
      pub filed : UpTo net.switches (InItsLane lanes) k

    lowest_same : (lanes lanes' : List ℕ) (s d i : ℕ) → Agree lanes lanes' (s * net.switches + d)
        → LowestLane lanes s d i → LowestLane lanes' s d i
    lowest_same lanes lanes' s d i same f =
        let back : Agree lanes' lanes (s * net.switches + d) = λ x l. sym (same x l) in
        record {
          exists = f.exists;
          fits = λ es h. f.fits es (held_with_same lanes' lanes s d i back es h);
          lower = λ m l es h. f.lower m l es (held_with_same lanes' lanes s d m back es h);
        }

    -- At first nothing is filed.
    pub filing_none : Filing 0 (replicate lane_total []) (replicate (net.switches * net.switches) 255)
    filing_none =
        record {
          size = length-replicate (net.switches * net.switches) 255;
          wide = length-replicate lane_total [];
          whole = λ i l. ap (completes (count net)) (empty i l) ∙ completes_none (count net);
          holds = λ i l.
              subst (Exactly (Held (replicate (net.switches * net.switches) 255) 0 i)) (sym (empty i l))
              (λ b c. (λ h. absurd (false≢true h), λ h. let l = h.before in absurd (omega arith)));
          filed = up_to_none net.switches (InItsLane (replicate (net.switches * net.switches) 255));
        }
      where
        empty : (i : ℕ) → i < lane_total → ◌≡◌ {A = List Edge} (get_or (replicate lane_total []) i []) []
        empty i l = get_or-replicate lane_total i [] [] l

    pub filing_skip : (s : ℕ) → s < net.switches → (ess : List (List Edge)) (lanes : List ℕ)
        → Filing (s * net.switches + s) ess lanes → Filing (suc (s * net.switches + s)) ess lanes
    filing_skip s l ess lanes f =
        let k = s * net.switches + s in
        let later : (i b c : ℕ) → Held lanes k i b c → Held lanes (suc k) i b c =
        λ i b c h. let lt = h.before in held_move lanes lanes k (suc k) i b c h (omega arith) h.in_lane in
        let sooner : (i b c : ℕ) → Held lanes (suc k) i b c → Held lanes k i b c =
        λ i b c h.
        let lt = h.before in
        let ne = place_apart net.switches h.source h.destination s h.pair l in
        held_move lanes lanes (suc k) k i b c h (omega (arith, ne)) h.in_lane in
        record {
          size = f.size;
          wide = f.wide;
          whole = f.whole;
          holds = λ i li.
              exactly_from (Held lanes k i) (Held lanes (suc k) i) (get_or ess i []) (λ b c. (later i b c, sooner i b c)) (f.holds i li);
          filed = up_to_skip net.switches (InItsLane lanes) s l f.filed;
        }

    -- Whether the pair (s, d) fits lane m depends only on which dependencies there are.
    lane_stays : (s d : ℕ) (ess : List (List Edge)) (lanes : List ℕ) → Filing (s * net.switches + d) ess lanes
        → (m : ℕ) → m < lane_total → (es : List Edge) → Exactly (HeldWith lanes s d m) es
        → completes (count net) es ≡ stays (count net) (pair_deps s d) ess m
    lane_stays s d ess lanes f m l es h =
        let all = pair_deps s d ++ get_or ess m [] in
        completes_same (count net) es all
        (exactly_same (HeldWith lanes s d m) es all h
        (exactly_append (Held lanes (s * net.switches + d) m) (pair_deps s d) (get_or ess m []) (f.holds m l)))

    -- One more pair, filed in the lowest lane that fits.
    module _ (s d : ℕ) (p : is_pair net.switches s d ≡ true) (ess : List (List Edge)) (lanes : List ℕ)
        (f : Filing (s * net.switches + d) ess lanes) (i : ℕ) (found : fits_at (count net) (pair_deps s d) 0 ess ≡ Some i) where
      abbrev here : ℕ
      here = s * net.switches + d

      abbrev lanes' : List ℕ
      lanes' = set lanes here i

      abbrev ess' : List (List Edge)
      ess' = set ess i (pair_deps s d ++ get_or ess i [])

      agree : Agree lanes lanes' here
      agree x l = sym (get_or-set_other lanes here x i 255 (λ e. omega arith))

      at_here : get_or lanes' here 255 ≡ i
      at_here = let l = place_in net.switches s d p in get_or-set_same lanes here i 255 (omega (arith, f.size))

      in_lanes : i < lane_total
      in_lanes = let l = (fits_some (count net) (pair_deps s d) ess i found).0 in omega (arith, f.wide)

      lowest : LowestLane lanes s d i
      lowest =
          let r = fits_some (count net) (pair_deps s d) ess i found in
          let top = in_lanes in
          record {
            exists = in_lanes;
            fits = λ es h. lane_stays s d ess lanes f i in_lanes es h ∙ r.1;
            lower = λ m l es h. lane_stays s d ess lanes f m (omega arith) es h ∙ r.2 m l;
          }

      holds_more : (j : ℕ) → j < lane_total → Exactly (Held lanes' (suc here) j) (get_or ess' j [])
      holds_more j l =
          elim (cases_eq j i) [
            | inl e ↦
                let eq : get_or ess' j [] ≡ pair_deps s d ++ get_or ess j [] =
                ap (λ (z : ℕ). get_or ess' z []) e
                ∙ (get_or-set_same ess i (pair_deps s d ++ get_or ess i []) [] (let w = f.wide in omega arith)
                ∙ ap (λ (z : ℕ). pair_deps s d ++ get_or ess z []) (sym e)) in
                subst (Exactly (Held lanes' (suc here) j)) (sym eq)
                (exactly_from (HeldWith lanes s d j) (Held lanes' (suc here) j) (pair_deps s d ++ get_or ess j [])
                (λ b c. (
                  λ h. elim h [
                    | inl q ↦
                        record {
                          source = s;
                          destination = d;
                          pair = p;
                          before = omega arith;
                          in_lane = at_here ∙ sym e;
                          takes = q;
                        }
                    | inr q ↦ later j b c q
                  ],
                  sooner j b c,
                ))
                (exactly_append (Held lanes here j) (pair_deps s d) (get_or ess j []) (f.holds j l)))
            | inr ne ↦
                subst (Exactly (Held lanes' (suc here) j)) (sym (get_or-set_other ess i j (pair_deps s d ++ get_or ess i []) [] ne))
                (exactly_from (Held lanes here j) (Held lanes' (suc here) j) (get_or ess j [])
                (λ b c. (
                  later j b c,
                  λ h. elim (cases_eq (h.source * net.switches + h.destination) here) [
                    | inl e ↦ absurd (ne (sym h.in_lane ∙ (ap (λ (z : ℕ). get_or lanes' z 255) e ∙ at_here)))
                    | inr apart ↦ below j b c h apart
                  ],
                ))
                (f.holds j l))
          ]
        where
          below : (j b c : ℕ) (h : Held lanes' (suc here) j b c) → (h.source * net.switches + h.destination ≡ here → ⊥)
              → Held lanes here j b c
          below j b c h ne =
              let l = h.before in
              let lt : h.source * net.switches + h.destination < here = omega (arith, ne) in
              held_move lanes' lanes (suc here) here j b c h lt (agree (h.source * net.switches + h.destination) lt ∙ h.in_lane)

          later : (j b c : ℕ) → Held lanes here j b c → Held lanes' (suc here) j b c
          later j b c h =
              let l = h.before in
              held_move lanes lanes' here (suc here) j b c h (omega arith)
              (sym (agree (h.source * net.switches + h.destination) l) ∙ h.in_lane)

          sooner : (j b c : ℕ) → Held lanes' (suc here) j b c → HeldWith lanes s d j b c
          sooner j b c h =
              elim (cases_eq (h.source * net.switches + h.destination) here) [
                | inl e ↦
                    let q = place_same net.switches h.source h.destination s d h.pair p e in
                    inl (subst (λ (z : ℕ). has (pair_deps z d) b c ≡ true) q.0
                    (subst (λ (z : ℕ). has (pair_deps h.source z) b c ≡ true) q.1 h.takes))
                | inr ne ↦ inr (below j b c h ne)
              ]

      pub filing_more : Filing (suc here) ess' lanes'
      filing_more =
          record {
            size = length-set lanes here i ∙ f.size;
            wide = length-set ess i (pair_deps s d ++ get_or ess i []) ∙ f.wide;
            whole = λ j l.
                elim (cases_eq j i) [
                  | inl e ↦
                      ap (λ (z : ℕ). completes (count net) (get_or ess' z [])) e
                      ∙ (ap (completes (count net))
                      (get_or-set_same ess i (pair_deps s d ++ get_or ess i []) [] (let w = f.wide in omega arith))
                      ∙ (fits_some (count net) (pair_deps s d) ess i found).1)
                  | inr ne ↦
                      ap (completes (count net)) (get_or-set_other ess i j (pair_deps s d ++ get_or ess i []) [] ne) ∙ f.whole j l
                ];
            holds = holds_more;
            filed =
                up_to_more net.switches (InItsLane lanes') s d p
                (subst (LowestLane lanes' s d) (sym at_here) (lowest_same lanes lanes' s d i agree lowest))
                (λ a b h l.
                subst (LowestLane lanes' a b) (agree (a * net.switches + b) l)
                (lowest_same lanes lanes' a b (get_or lanes (a * net.switches + b) 255) (λ x lx. agree x (omega arith)) (f.filed a b h l)));
          }

    -- Refusal 10: the pairs before (source, destination) are filed, and it fits no lane.
    pub record Unfiled (r : Refusal) : Type 0 where
      pub source : ℕ
      pub destination : ℕ
      pub says : r ≡ refuse topology_layer 10 (source ∷ destination ∷ [])
      pub pair : is_pair net.switches source destination ≡ true
      pub lanes : List ℕ
      pub before : UpTo net.switches (InItsLane lanes) (source * net.switches + destination)
      pub none : (m : ℕ) → m < lane_total → (es : List Edge) → Exactly (HeldWith lanes source destination m) es
          → completes (count net) es ≡ false

    module _ (table : List ℕ) where
      -- What the answer says: the channel table is the one that the pairs were filed by, and all are filed; or one is not.
      abbrev pub FilingSays : Planned → Type 0
      FilingSays (tables hop_table lanes) =
          (hop_table ≡ table) × (ess : List (List Edge)) × Filing (net.switches * net.switches) ess lanes
      FilingSays (refused r) = Unfiled r

      abbrev FilingOn : ℕ → List Pair → Type 0
      FilingOn k ps = (ess : List (List Edge)) (lanes : List ℕ) → Filing k ess lanes → FilingSays (file_from net rule table ps ess lanes)

      filing_on : (s d : ℕ) → is_pair net.switches s d ≡ true → (ps : List Pair) → FilingOn (suc (s * net.switches + d)) ps
          → FilingOn (s * net.switches + d) (record { source = s; destination = d } ∷ ps)
      filing_on s d p ps ih ess lanes f = go (fits_at (count net) (pair_deps s d) 0 ess) refl
        where
          go : (m : Option ℕ) → fits_at (count net) (pair_deps s d) 0 ess ≡ m
              → FilingSays
              (elim m as (λ _. Planned) [
                | None ↦ refused (refuse topology_layer 10 (s ∷ d ∷ []))
                | Some i ↦
                    file_from net rule table ps (set ess i (pair_deps s d ++ get_or ess i [])) (set lanes (s * net.switches + d) i)
              ])
          go None e =
              record {
                source = s;
                destination = d;
                says = refl;
                pair = p;
                lanes = lanes;
                before = f.filed;
                none = λ m l es h.
                    lane_stays s d ess lanes f m l es h
                    ∙ fits_none (count net) (pair_deps s d) 0 ess e m (let w = f.wide in omega arith);
              }
          go (Some i) e =
              ih (set ess i (pair_deps s d ++ get_or ess i [])) (set lanes (s * net.switches + d) i) (filing_more s d p ess lanes f i e)

      pub filing_says : FilingSays
          (file_from net rule table (pairs_of net.switches) (replicate lane_total []) (replicate (net.switches * net.switches) 255))
      filing_says =
          on_pairs_lem net.switches FilingOn
          (λ s l ps ih ess lanes f. ih ess lanes (filing_skip s l ess lanes f))
          filing_on (λ ess lanes f. (refl, ess, f))
          (replicate lane_total []) (replicate (net.switches * net.switches) 255) filing_none
