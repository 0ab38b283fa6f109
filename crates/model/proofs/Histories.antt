-- Histories by time: the state after t calls, the calls of a list, and where the rounds in a list of rounds begin.
use Rattle.std.proofs.Common.{◌≡◌, ℕ, zero, suc, ◌+◌, ◌<◌, ◌≤◌, List, [], ◌∷◌, ◌++◌, length, get_or, sym, refl, ap, ◌∙◌, arith, length-append}
use Rattle.std.proofs.lemmas.List.{get_or_append_left, get_or-append-add}
use Rattle.model.specs.Rules.{Setup}
use Rattle.model.specs.Packets.{Parcel, Call, post, Event}
use Rattle.model.specs.State.{State, empty}
use Rattle.model.specs.History.{step_at, state_from, state_after}
use Rattle.model.specs.Promise.{flat}

-- The state after two lists of calls, one after the other.
pub state_onward : (g : Setup) (s : State Parcel) (i j : ℕ) (xs ys : List Call) → j ≡ i + length xs
    → state_from g i s (xs ++ ys) ≡ state_from g j (state_from g i s xs) ys
state_onward g s i j [] ys e = let q : i ≡ j = omega arith in ap (λ (z : ℕ). state_from g z s ys) q
state_onward g s i j (x ∷ xs) ys e = state_onward g (step_at g i s x).state (suc i) j xs ys (omega arith)

-- The state after t calls.
abbrev pub run_at : Setup → (ℕ → Call) → ℕ → State Parcel
run_at g f zero = empty
run_at g f (suc t) = (step_at g t (run_at g f t) (f t)).state

abbrev pub event_at : Setup → (ℕ → Call) → ℕ → Event Parcel
event_at g f t = (step_at g t (run_at g f t) (f t)).event

-- The calls of a list by time; past its end a post that is refused.
abbrev pub no_call : Call
no_call = post 0 0 0

abbrev pub call_at : List Call → ℕ → Call
call_at cs t = get_or cs t no_call

state_run : (g : Setup) (f : ℕ → Call) (cs : List Call) (t T : ℕ) (s : State Parcel) → s ≡ run_at g f t → T ≡ t + length cs
    → ((j : ℕ) → j < length cs → f (t + j) ≡ call_at cs j) → state_from g t s cs ≡ run_at g f T
state_run g f [] t T s a e k = let z : t ≡ T = omega arith in a ∙ ap (run_at g f) z
state_run g f (c ∷ cs) t T s a e k =
    let z : t + 0 ≡ t = omega arith in
    let here : c ≡ f t = sym (k 0 (omega arith)) ∙ ap f z in
    let next : (step_at g t s c).state ≡ run_at g f (suc t) =
    ap (λ (x : State Parcel). (step_at g t x c).state) a ∙ ap (λ (x : Call). (step_at g t (run_at g f t) x).state) here in
    state_run g f cs (suc t) T (step_at g t s c).state next (omega arith)
    (λ j h. let y : suc t + j ≡ t + suc j = omega arith in ap f y ∙ k (suc j) (omega arith))

pub state_at : (g : Setup) (xs ys : List Call) → state_after g xs ≡ run_at g (call_at (xs ++ ys)) (length xs)
state_at g xs ys =
    state_run g (call_at (xs ++ ys)) xs 0 (length xs) empty refl (omega arith)
    (λ j h. let z : 0 + j ≡ j = omega arith in ap (call_at (xs ++ ys)) z ∙ get_or_append_left xs ys no_call j h)

-- How many calls the first i rounds have.
pub upto : List (List Call) → ℕ → ℕ
upto [] i = 0
upto (r ∷ rs) zero = 0
upto (r ∷ rs) (suc i) = length r + upto rs i

upto_zero : (rs : List (List Call)) → upto rs 0 ≡ 0
unfolding upto
upto_zero [] = refl
upto_zero (r ∷ rs) = refl

pub upto_suc : (rs : List (List Call)) (i : ℕ) → i < length rs → upto rs (suc i) ≡ upto rs i + length (get_or rs i [])
unfolding upto
upto_suc [] i h = absurd (omega arith)
upto_suc (r ∷ rs) zero h = let k = upto_zero rs in omega arith
upto_suc (r ∷ rs) (suc i) h = let k = upto_suc rs i (omega arith) in omega arith

pub upto_up : (rs : List (List Call)) (i j : ℕ) → i ≤ j → upto rs i ≤ upto rs j
unfolding upto
upto_up [] i j h = omega arith
upto_up (r ∷ rs) zero j h = omega arith
upto_up (r ∷ rs) (suc i) zero h = absurd (omega arith)
upto_up (r ∷ rs) (suc i) (suc j) h = let k = upto_up rs i j (omega arith) in omega arith

pub upto_all : (rs : List (List Call)) → upto rs (length rs) ≡ length (flat rs)
unfolding upto
upto_all [] = refl
upto_all (r ∷ rs) = let k = upto_all rs in omega (arith, length-append r (flat rs))

pub call_flat : (rs : List (List Call)) (i j : ℕ) → i < length rs → j < length (get_or rs i [])
    → call_at (flat rs) (upto rs i + j) ≡ call_at (get_or rs i []) j
unfolding upto
call_flat [] i j h g = absurd (omega arith)
call_flat (r ∷ rs) zero j h g = let z : 0 + j ≡ j = omega arith in rw z (get_or_append_left r (flat rs) no_call j g)
call_flat (r ∷ rs) (suc i) j h g =
    let z : length r + upto rs i + j ≡ length r + (upto rs i + j) = omega arith in
    rw z (get_or-append-add r (flat rs) (upto rs i + j) no_call ∙ call_flat rs i j (omega arith) g)
