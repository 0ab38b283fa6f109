use Rattle.std.proofs.Common.{ℕ, max, Bool, rules, tests, arith, ap, ◌∙◌}
use Rattle.std.proofs.lemmas.Iterator.{YieldsList-from_range, YieldsList-from_map}
use Rattle.std.proofs.lemmas.Iterator.Consumers.{YieldsList-from_filter, YieldsList-at}
use Rattle.patience.specs.Caps.{costs, heaviest}
use Rattle.patience.proofs.Folding.{folded, heaviest_chain}
use Rattle.patience.proofs.holds.next_hold.Goals as goal

pub returns : goal.returns
returns g c =
    let f : ℕ → ℕ = costs c.args.slots.now in
    let e : ℕ → Bool = g.G.Graph.edge c.args.lane.now c.args.channel in
    let n : ℕ = c.node_count.result in
    folded max c.fold.ensures.ran
    (YieldsList-from_map _ f (YieldsList-at c.map.ensures.source
    (YieldsList-from_filter _ e (YieldsList-from_range 0 n n (cc) (omega arith)) c.filter.ensures.closure (λ x r q k. search (rules, tests))))
    c.map.ensures.closure (λ x r q k. search (rules, tests))) (λ x y b q k. search rules)
    ∙ heaviest_chain f e n ∙ ap (heaviest f e) c.node_count.ensures
