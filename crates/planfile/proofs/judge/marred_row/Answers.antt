use Rattle.std.proofs.Common.{◌≡◌, ◌≢◌, ℕ, ◌+◌, ◌*◌, ◌<◌, List, Option, Some, None, IfSome, IsSomeAnd, MatchOption, Bor, length, get_or, ap, ◌∙◌, subst, inl, inr, arith, rules, tests}
use Rattle.std.specs.Option.{option_map}
use Rattle.std.proofs.lemmas.Bool.{cases_lt}
use Rattle.std.proofs.lemmas.Nat.{mul-add-lt, mul-le}
use Rattle.std.proofs.lemmas.Option.{IfSome_then}
use Rattle.planfile.specs.Refused.{Plain, Marred}
use Rattle.planfile.proofs.judge.marred_row.Goals as goal

-- the byte that an item refers to
abbrev byte_of : Option (Bor ℕ) → Option ℕ
byte_of o = option_map (λ (x : Bor ℕ). x.now) o

-- what holds of an item holds of its byte
of_byte : (P : ℕ → Type 0) (o : Option (Bor ℕ)) (b : ℕ) → byte_of o ≡ Some b → IfSome o (λ x. P x.now) → P b
of_byte P (Some x) b e h = let q : x.now ≡ b = cc in subst P q h
of_byte P None b e h = cc

if_there : (o : Option (Bor ℕ)) (P Q : Bor ℕ → Type 0) → IsSomeAnd o P → ((x : Bor ℕ) → P x → Q x) → IfSome o Q
if_there (Some x) P Q h f = f x h
if_there None P Q h f = tt

either : (o : Option ℕ) (P P' : Type 0) (Q Q' : ℕ → Type 0) → MatchOption o P Q → (P → P') → ((i : ℕ) → Q i → Q' i) → MatchOption o P' Q'
either None P P' Q Q' h f g = f h
either (Some i) P P' Q Q' h f g = g i h

row_within : (n i : ℕ) → i * n + i < n * n → i < n
row_within n i h = elim (cases_lt i n) [ inl l ↦ l | inr l ↦ absurd (omega (arith, mul-le n n i n l (omega arith))) ]

pub returns : goal.returns
returns c =
    let n : ℕ = c.args.switches in
    let xs : List ℕ = c.args.table.now in
    let w = c.position.ensures.runs in
    let s = c.step_by.ensures.runs w.0 w.0.seen w.1 in
    let m = c.iter.ensures.runs s.0 s.0.seen in
    let all : s.0.from.rest.now ≡ xs = ap (λ z. z.rest.now) s.1 ∙ c.iter.ensures.rest in
    let byte : (k : ℕ) → k * n + k < s.0.len → byte_of (w.0.at k) ≡ Some (get_or xs (k * n + k) 0) = λ k h.
    let j : k * (n + 1) ≡ k * n + k = omega arith in
    ap byte_of (s.2.4 k ∙ ap s.0.at j) ∙ m.2 (k * n + k) 0 h ∙ ap (λ (z : List ℕ). Some (get_or z (k * n + k) 0)) all in
    either c.position.result _ (Plain n xs n) _ (Marred n xs) w.2
    (λ f k h.
    let whole : s.0.len ≡ n * n = m.1 (s.2.0 ∙ f.0) ∙ ap length all ∙ c.requires in
    of_byte (λ b. b ≡ 255) (w.0.at k) _ (byte k (omega (arith, mul-add-lt k n k n h h)))
    (IfSome_then (w.0.at k) (f.1 (λ a r g e. search rules) k) (λ x e. search (rules, tests))))
    (λ i f.
    let calls = f.1 (λ a r g e. search rules) in
    let within : i * n + i < s.0.len = omega (arith, s.2.3, ap (λ z. z * (n + 1)) f.0) in
    record {
      there = row_within n i (omega (arith, m.0, ap length all));
      before =
          λ k h. of_byte (λ b. b ≡ 255) (w.0.at k) _ (byte k (omega (arith, mul-le k n i n (omega arith) (omega arith))))
          (if_there (w.0.at k) _ _ (calls.1 k h) (λ x e. search (rules, tests)));
      here = of_byte (λ b. b ≢ 255) (w.0.at i) _ (byte i within) (if_there (w.0.at i) _ _ calls.0 (λ x e. search (rules, tests)));
    })
