-- The bytes of a body that has a number in front.
use Rattle.std.proofs.Common.{◌≡◌, ℕ, ◌+◌, ◌-◌, ◌<◌, List, length, get_or, take, drop, ap, ◌∙◌, arith}
use Rattle.std.proofs.lemmas.List.{drop-drop, drop-take, get_or-drop, get_or-take, take_rest}

pub first_byte : (bs body : List ℕ) (from long at : ℕ) → body ≡ take long (drop from bs) → from ≡ at → 0 < long → get_or body 0 0 ≡ get_or bs at 0
first_byte bs body from long at e q h =
    let z : from + 0 ≡ at = omega arith in
    ap (λ (b : List ℕ). get_or b 0 0) e ∙ get_or-take long (drop from bs) 0 0 h ∙ get_or-drop from bs 0 0 ∙ ap (λ (k : ℕ). get_or bs k 0) z

pub other_bytes : (bs body : List ℕ) (from long at m : ℕ) → body ≡ take long (drop from bs) → from + 1 ≡ at → long ≡ 1 + m
    → take (length body - 1) (drop 1 body) ≡ take m (drop at bs)
other_bytes bs body from long at m e q l =
    take_rest body 1 ∙ ap (drop 1) (e ∙ ap (λ (k : ℕ). take k (drop from bs)) l) ∙ drop-take 1 m (drop from bs)
    ∙ ap (take m) (drop-drop 1 from bs ∙ ap (λ (k : ℕ). drop k bs) q)
