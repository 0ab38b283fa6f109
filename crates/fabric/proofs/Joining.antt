-- Which switches the channels of a list join.
use Rattle.std.proofs.Common.{◌≡◌, ℕ, suc, ◌≤◌, false, ◌||◌, List, [], ◌∷◌, map, refl, ap, arith}
use Rattle.std.specs.List.{list_any}
use Rattle.model.specs.Lists.{any_of}
use Rattle.model.specs.Net.{Channel}
use Rattle.fabric.specs.Channels.{plain, Inside}
use Rattle.fabric.specs.Switches.{goes, not_both}
use Rattle.fabric.specs.declared.channel.Channel.{Channel as CodeChannel}

-- the test of the model's channels is that of the code's
pub joins_is : (u v : ℕ) (xs : List CodeChannel) → any_of (goes u v) (map plain xs) ≡ list_any (λ c. goes u v (plain c)) xs
joins_is u v [] = refl
joins_is u v (x ∷ xs) = ap (λ b. goes u v (plain x) || b) (joins_is u v xs)

-- no channel goes from a switch that does not exist, or to one
pub from_none : (n u v : ℕ) (cs : List Channel) → Inside n cs → n ≤ u → any_of (goes u v) cs ≡ false
from_none n u v [] inside l = refl
from_none n u v (c ∷ cs) inside l =
    simp (not_both c.start c.finish u v (λ q. absurd (omega (arith, q, (inside 0 (omega arith)).0))), from_none n u v cs (λ k h. inside (suc k) (omega arith)) l)

pub to_none : (n u v : ℕ) (cs : List Channel) → Inside n cs → n ≤ v → any_of (goes u v) cs ≡ false
to_none n u v [] inside l = refl
to_none n u v (c ∷ cs) inside l =
    simp (not_both c.start c.finish u v (λ p q. omega (arith, q, (inside 0 (omega arith)).1)), to_none n u v cs (λ k h. inside (suc k) (omega arith)) l)
