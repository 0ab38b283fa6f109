-- How a route ends where no hop is left.
use Rattle.std.proofs.Common.{◌≡◌, ℕ, zero, suc, cond, eqb, [], refl, arith}
use Rattle.model.specs.Net.{Net}
use Rattle.model.specs.Rules.{Rule}
use Rattle.model.specs.Routes.{walk, arrives, stops, tires, ending}

pub none_left : (net : Net) (rule : Rule) (k u d : ℕ) → walk net rule k u d ≡ []
    → ending net rule k u d ≡ cond (eqb u d) arrives (cond (eqb k 0) tires (stops u))
none_left net rule zero u d h = refl
none_left net rule (suc k) u d h = grind arith
