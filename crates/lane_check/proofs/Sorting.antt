-- What the code of the order does, turn by turn.
use Rattle.std.proofs.Common.{◌≡◌, ℕ, zero, suc, ◌+◌, ◌-◌, ◌<◌, ◌≤◌, Bool, true, false, cond, not, ◌&&◌, eqb, ltb, List, [], ◌∷◌, ◌++◌, length, get_or, set, replicate, Some, None, IfSome, Option, sym, refl, ap, ◌∙◌, subst, inl, inr, arith, below_more}
use Rattle.std.specs.Option.{is_some}
use Rattle.std.proofs.lemmas.List.{append_assoc, append-nil, get_or_past, get_or-replicate, get_or-set_same, get_or-set_other, length_push, nil_from_length}
use Rattle.std.proofs.lemmas.Bool.{and_parts, and_from, and_right, and_left, both_ways, not-false, eqb-true, eq-eqb, ne_eqb, ltb-true, cases_eq, cases_lt, cases_Bool}
use Rattle.model.specs.Lists.{up_from, below, all_of, first, keep, is_in, without, is_empty, different}
use Rattle.model.specs.Routes.{Edge, has}
use Rattle.model.specs.Order.{free, order_from, rest_from, order_of, completes}
use Rattle.model.proofs.Members.{is_in_cases, is_in_at, is_in_there, any_keep, all_of_any, all_of_fails, all_from, is_in_below, below_in, all_below, different_more, different_parts, different_up_from, first_in, without_one, length-up_from}
use Rattle.model.proofs.FiledLanes.{keep_keep}
use Rattle.model.proofs.Ordering.{free_before}
use Rattle.lane_check.specs.Orders.{waits, blocks, Blocked, Watched, Free, Held, HeldBelow, NextFree}
use Rattle.lane_check.proofs.Listing.{any_kept}

-- The elements that pass, and the first of them.
module _ {A : Type 0} where
  keep_same : (f h : A → Bool) (xs : List A) → ((x : A) → f x ≡ h x) → keep f xs ≡ keep h xs
  keep_same f h [] e = refl
  keep_same f h (x ∷ xs) e =
      ap (λ (b : Bool). cond b (x ∷ keep f xs) (keep f xs)) (e x) ∙ ap (λ (z : List A). cond (h x) (x ∷ z) z) (keep_same f h xs e)

  keep_all : (f : A → Bool) (xs : List A) → all_of f xs ≡ true → keep f xs ≡ xs
  keep_all f [] a = refl
  keep_all f (x ∷ xs) a =
      let p = and_parts (f x) (all_of f xs) a in
      ap (λ (b : Bool). cond b (x ∷ keep f xs) (keep f xs)) p.0 ∙ ap (λ (z : List A). x ∷ z) (keep_all f xs p.1)

  first_kept : (f t : A → Bool) (xs : List A) → first f (keep t xs) ≡ first (λ x. t x && f x) xs
  first_kept f t [] = refl
  first_kept f t (x ∷ xs) = go (first_kept f t xs) (t x)
    where
      go : first f (keep t xs) ≡ first (λ x. t x && f x) xs → (b : Bool)
          → first f (cond b (x ∷ keep t xs) (keep t xs)) ≡ cond (b && f x) (Some x) (first (λ x. t x && f x) xs)
      go ih true = ap (λ (z : Option A). cond (f x) (Some x) z) ih
      go ih false = ih

kept_member : (t : ℕ → Bool) (y : ℕ) (xs : List ℕ) → is_in y (keep t xs) ≡ true → is_in y xs ≡ true
kept_member t y [] i = i
kept_member t y (x ∷ xs) i = go (kept_member t y xs) (t x) i
  where
    go : (is_in y (keep t xs) ≡ true → is_in y xs ≡ true) → (b : Bool) → is_in y (cond b (x ∷ keep t xs) (keep t xs)) ≡ true → is_in y (x ∷ xs) ≡ true
    go ih true j = elim (is_in_cases y x (keep t xs) j) [ inl q ↦ is_in_at y x xs q | inr k ↦ is_in_there y x xs (ih k) ]
    go ih false j = is_in_there y x xs (ih j)

different_kept : (t : ℕ → Bool) (xs : List ℕ) → different xs ≡ true → different (keep t xs) ≡ true
different_kept t [] d = refl
different_kept t (x ∷ xs) d = let p = different_parts x xs d in go (different_kept t xs p.1) p.0 (t x)
  where
    go : different (keep t xs) ≡ true → (is_in x xs ≡ true → ⊥) → (b : Bool) → different (cond b (x ∷ keep t xs) (keep t xs)) ≡ true
    go ih out true = different_more x (keep t xs) (λ i. out (kept_member t x xs i)) ih
    go ih out false = ih

first_lowest : (f : ℕ → Bool) (k i c : ℕ) → f c ≡ true → i ≤ c → c < i + k → ((x : ℕ) → i ≤ x → x < c → f x ≡ false)
    → first f (up_from k i) ≡ Some c
first_lowest f zero i c t lo hi none = absurd (omega arith)
first_lowest f (suc k) i c t lo hi none =
    elim (cases_eq c i) [
      | inl q ↦
          ap (λ (b : Bool). cond b (Some i) (first f (up_from k (suc i)))) (subst (λ (z : ℕ). f z ≡ true) q t) ∙ ap (λ (z : ℕ). Some z) (sym q)
      | inr q ↦
          ap (λ (b : Bool). cond b (Some i) (first f (up_from k (suc i)))) (none i (omega arith) (omega arith))
          ∙ first_lowest f k (suc i) c t (omega arith) (omega arith) (λ x a b. none x (omega arith) b)
    ]

first_nowhere : (f : ℕ → Bool) (k i : ℕ) → ((x : ℕ) → i ≤ x → x < i + k → f x ≡ false) → first f (up_from k i) ≡ None
first_nowhere f zero i none = refl
first_nowhere f (suc k) i none =
    ap (λ (b : Bool). cond b (Some i) (first f (up_from k (suc i)))) (none i (omega arith) (omega arith))
    ∙ first_nowhere f k (suc i) (λ x a b. none x (omega arith) (omega arith))

module _ (w : ℕ → Bool) (n : ℕ) where
  in_waiting : (b : ℕ) → b < n → w b ≡ true → is_in b (keep w (below n)) ≡ true
  in_waiting b h t =
      any_keep (λ y. eqb b y) w (below n) (is_in_below n b h) (λ y q. subst (λ (z : ℕ). w z ≡ true) (eqb-true b y q) t)

  waiting_in : (b : ℕ) → is_in b (keep w (below n)) ≡ true → (b < n) × (w b ≡ true)
  waiting_in b i =
      let r = all_of_any (λ x. ltb x n) (λ x. w x && eqb b x) (below n) (all_below n) (sym (any_kept (λ x. eqb b x) w (below n)) ∙ i) in
      let p = and_parts (w r.0) (eqb b r.0) r.2 in
      let q = eqb-true b r.0 p.1 in
      (omega (arith, ltb-true r.0 n r.1), subst (λ (z : ℕ). w z ≡ true) (sym q) p.0)

-- What the code finds next is what the model takes next.
module _ (es : List Edge) (e : ℕ → ℕ → Bool) (same : (b c : ℕ) → e b c ≡ has es b c) (n : ℕ) where
  free_not : (w : ℕ → Bool) (c : ℕ) → Blocked e w n c → free es (keep w (below n)) c ≡ false
  free_not w c B =
      let p = and_parts (w B.0) (e B.0 c) B.2 in
      elim (cases_Bool (free es (keep w (below n)) c)) [
        | inl t ↦ absurd (free_before es (keep w (below n)) c B.0 t (sym (same B.0 c) ∙ p.1) (in_waiting w n B.0 B.1 p.0))
        | inr f ↦ f
      ]

  free_yes : (w : ℕ → Bool) (c : ℕ) → ((b : ℕ) → b < n → blocks e w c b ≡ false) → free es (keep w (below n)) c ≡ true
  free_yes w c none =
      let R = keep w (below n) in
      elim (cases_Bool (free es R c)) [
        | inl t ↦ t
        | inr f ↦
            let r = all_of_fails (λ (x : Edge). not (eqb x.head c && is_in x.tail R)) es f in
            let b = r.0.tail in
            let p = and_parts (eqb r.0.head c) (is_in b R) (not-false (eqb r.0.head c && is_in b R) r.1) in
            let h : has es b c ≡ true =
            r.2 (λ x. eqb x.tail b && eqb x.head c) (and_from (eqb b b) (eqb r.0.head c) (eq-eqb b b refl) p.0) in
            let i = waiting_in w n b p.1 in
            absurd (both_ways (blocks e w c b) (none b i.0) (and_from (w b) (e b c) i.1 (same b c ∙ h)))
      ]

  next_first : (w : ℕ → Bool) (r : Option ℕ) → NextFree e w n r → first (free es (keep w (below n))) (keep w (below n)) ≡ r
  next_first w r F = first_kept (free es (keep w (below n))) w (below n) ∙ found r F
    where
      f : ℕ → Bool
      f x = w x && free es (keep w (below n)) x

      stays : (x : ℕ) → (w x ≡ true → Blocked e w n x) → f x ≡ false
      stays x B =
          elim (cases_Bool (w x)) [
            | inl t ↦ and_right (w x) (free es (keep w (below n)) x) (free_not w x (B t))
            | inr q ↦ and_left (w x) (free es (keep w (below n)) x) q
          ]

      found : (r : Option ℕ) → NextFree e w n r → first f (below n) ≡ r
      found None F = first_nowhere f n 0 (λ x a b. stays x (F.each x (omega arith)).blocked)
      found (Some c) F =
          first_lowest f n 0 c (and_from (w c) (free es (keep w (below n)) c) F.1.waiting (free_yes w c F.1.alone)) (omega arith) (omega (arith, F.0))
          (λ x a b. stays x (F.2.each x b).blocked)

module _ (es : List Edge) where
  order_on : (m k c : ℕ) (rest : List ℕ) → m ≡ suc k → first (free es rest) rest ≡ Some c
      → (order_from es m rest ≡ c ∷ order_from es k (without c rest)) × (rest_from es m rest ≡ rest_from es k (without c rest))
  order_on zero k c rest q e = absurd (omega arith)
  order_on (suc m) k c rest q e =
      let z : m ≡ k = omega arith in (
        ap (λ (o : Option ℕ). elim o as (λ _. List ℕ) [ None ↦ [] | Some c ↦ c ∷ order_from es m (without c rest) ]) e
            ∙ ap (λ (j : ℕ). c ∷ order_from es j (without c rest)) z,
        ap (λ (o : Option ℕ). elim o as (λ _. List ℕ) [ None ↦ rest | Some c ↦ rest_from es m (without c rest) ]) e
            ∙ ap (λ (j : ℕ). rest_from es j (without c rest)) z,
      )

  rest_stop : (m : ℕ) (rest : List ℕ) → first (free es rest) rest ≡ None → rest_from es m rest ≡ rest
  rest_stop zero rest e = refl
  rest_stop (suc m) rest e = ap (λ (o : Option ℕ). elim o as (λ _. List ℕ) [ None ↦ rest | Some c ↦ rest_from es m (without c rest) ]) e

-- After k turns, by the model's order: the list is its front, and those that wait are left.
pub record Turning (n : ℕ) (es : List Edge) (list : List ℕ) (w : ℕ → Bool) (k : ℕ) : Type 0 where
  pub order : order_of n es ≡ list ++ order_from es (n - k) (keep w (below n))
  pub rest : rest_from es n (below n) ≡ rest_from es (n - k) (keep w (below n))
  pub size : length (keep w (below n)) + k ≡ n

-- The same of the code's list and watch.
pub record Turned (n : ℕ) (e : ℕ → ℕ → Bool) (list : List ℕ) (watch : List (Option ℕ)) (k : ℕ) : Type 0 where
  pub taken : length list ≡ k
  pub watched : Watched e watch
  pub each : (es : List Edge) → ((b c : ℕ) → e b c ≡ has es b c) → Turning n es list (waits watch) k

module _ (n : ℕ) (e : ℕ → ℕ → Bool) (few : n ≤ 128) where
  pub turned_none : Turned n e [] (replicate 128 (Some 0)) 0
  turned_none =
      record {
        taken = refl;
        watched = λ c. elim (cases_lt c 128) [
          | inl h ↦ rw get_or-replicate (λ b l. absurd (omega arith))
          | inr h ↦ rw get_or_past tt
        ];
        each = λ es same. record {
          order = ap (order_from es n) (sym all) ∙ ap (λ (m : ℕ). order_from es m (keep (waits (replicate 128 (Some 0))) (below n))) (whole n);
          rest = ap (rest_from es n) (sym all) ∙ ap (λ (m : ℕ). rest_from es m (keep (waits (replicate 128 (Some 0))) (below n))) (whole n);
          size = ap (λ (xs : List ℕ). length xs + 0) all ∙ (let l = length-up_from n 0 in omega arith);
        };
      }
    where
      whole : (m : ℕ) → m ≡ m - 0
      whole m = omega arith

      all : keep (waits (replicate 128 (Some 0))) (below n) ≡ below n
      all = keep_all (waits (replicate 128 (Some 0))) (below n)
          (all_from (waits (replicate 128 (Some 0))) (below n) (λ x i.
          ap is_some (get_or-replicate 128 x (Some 0) None (let h = below_in n x i in omega arith))))

  module _ (list : List ℕ) (watch : List (Option ℕ)) (k : ℕ) (T : Turned n e list watch k) where
    -- Nothing is free, and something is left.
    pub turned_stuck : k < n → NextFree e (waits watch) n None → (es : List Edge) → ((b c : ℕ) → e b c ≡ has es b c) → completes n es ≡ false
    turned_stuck h F es same =
        let t = T.each es same in
        let r : rest_from es n (below n) ≡ keep (waits watch) (below n) = t.rest ∙ rest_stop es (n - k) _ (next_first es e same n (waits watch) None F) in
        ap is_empty r ∙ some (keep (waits watch) (below n)) t.size
      where
        some : (xs : List ℕ) → length xs + k ≡ n → is_empty xs ≡ false
        some [] l = absurd (omega arith)
        some (x ∷ xs) l = refl

    pub turned_more : (watch' : List (Option ℕ)) (c : ℕ) → k < n → NextFree e (waits watch) n (Some c) → waits watch' ≡ waits watch
        → length watch' ≡ 128 → Watched e watch' → Turned n e (list ++ c ∷ []) (set watch' c None) (k + 1)
    turned_more watch' c h F S L V =
        record {
          taken = length_push list c ∙ ap (λ (m : ℕ). m + 1) T.taken;
          watched = λ x. elim (cases_eq x c) [
            | inl q ↦ rw (q, get_or-set_same watch' c None None (omega (arith, F.0))) tt
            | inr q ↦ rw (get_or-set_other watch' c x None None q) (still x (get_or watch' x None) (V x))
          ];
          each = λ es same.
              let t = T.each es same in
              let next = next_first es e same n (waits watch) (Some c) F in
              let on = order_on es (n - k) (n - (k + 1)) c (keep (waits watch) (below n)) (omega arith) next in
              let one = without_one c (keep (waits watch) (below n)) (different_kept (waits watch) (below n) (different_up_from n 0))
              (first_in (free es (keep (waits watch) (below n))) (keep (waits watch) (below n)) c next) in
              let l = ap length less in
              record {
                order = t.order ∙ ap (λ (z : List ℕ). list ++ z) (on.0 ∙ ap (λ (z : List ℕ). c ∷ order_from es (n - (k + 1)) z) (sym less))
                    ∙ sym (append_assoc list (c ∷ []) (order_from es (n - (k + 1)) (keep (waits (set watch' c None)) (below n))));
                rest = t.rest ∙ on.1 ∙ ap (rest_from es (n - (k + 1))) (sym less);
                size = omega (arith, one.1, t.size, l);
              };
        }
      where
        fewer : (x : ℕ) → waits (set watch' c None) x ≡ (waits watch x && not (eqb c x))
        fewer x =
            elim (cases_eq x c) [
              | inl q ↦
                  let m = F.0 in
                  ap (λ (z : ℕ). waits (set watch' c None) z) q ∙ ap is_some (get_or-set_same watch' c None None (omega arith))
                  ∙ sym (and_right (waits watch x) (not (eqb c x)) (ap not (eq-eqb c x (sym q))))
              | inr q ↦
                  ap is_some (get_or-set_other watch' c x None None q) ∙ ap (λ (w : ℕ → Bool). w x) S
                  ∙ sym (ap (λ (t : Bool). waits watch x && not t) (ne_eqb c x (λ z. q (sym z))) ∙ and_yes (waits watch x))
            ]
          where
            and_yes : (t : Bool) → (t && true) ≡ t
            and_yes true = refl
            and_yes false = refl

        still : (x : ℕ) (o : Option ℕ) → IfSome o (λ a. (b : ℕ) → b < a → blocks e (waits watch') x b ≡ false)
            → IfSome o (λ a. (b : ℕ) → b < a → blocks e (waits (set watch' c None)) x b ≡ false)
        still x None V = tt
        still x (Some a) V = λ b l. ap (λ (t : Bool). t && e b x) (fewer b ∙ ap (λ (w : ℕ → Bool). w b && not (eqb c b)) (sym S)) ∙ drops (waits watch' b) (not (eqb c b)) (e b x) (V b l)
          where
            drops : (x y z : Bool) → (x && z) ≡ false → (x && y && z) ≡ false
            drops true true z p = p
            drops true false z p = refl
            drops false y z p = refl

        less : keep (waits (set watch' c None)) (below n) ≡ without c (keep (waits watch) (below n))
        less =
            keep_same (waits (set watch' c None)) (λ x. waits watch x && not (eqb c x)) (below n) fewer
            ∙ sym (keep_keep (λ x. not (eqb c x)) (waits watch) (below n))

    pub turned_all : k ≡ n → (es : List Edge) → ((b c : ℕ) → e b c ≡ has es b c) → (completes n es ≡ true) × (list ≡ order_of n es)
    turned_all q es same =
        let t = T.each es same in
        let over : n - k ≡ 0 = omega arith in
        let z : keep (waits watch) (below n) ≡ [] = nil_from_length (keep (waits watch) (below n)) (omega (arith, t.size)) in (
          ap is_empty (t.rest ∙ ap (rest_from es (n - k)) z ∙ rest_stop es (n - k) [] refl),
          sym (t.order ∙ ap (λ (y : List ℕ). list ++ order_from es (n - k) y) z
              ∙ ap (λ (m : ℕ). list ++ order_from es m []) over ∙ append-nil list),
        )

-- What is free or held by one watch is so by another for which the same channels wait.
module _ (e : ℕ → ℕ → Bool) (n : ℕ) where
  pub free_same : (c : ℕ) (xs ys : List (Option ℕ)) → waits xs ≡ waits ys → Free e (waits xs) n c → Free e (waits ys) n c
  free_same c xs ys q f = subst (λ (w : ℕ → Bool). Free e w n c) q f

  pub held_more : (k : ℕ) (xs ys : List (Option ℕ)) → waits xs ≡ waits ys → Held e (waits xs) n k → HeldBelow e (waits ys) n k
      → HeldBelow e (waits ys) n (k + 1)
  held_more k xs ys q h b = record { each = below_more _ _ b.each (subst (λ (w : ℕ → Bool). Held e w n k) q h) }
