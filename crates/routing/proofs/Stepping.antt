-- The steps of a route.
use Rattle.std.proofs.Common.{◌≡◌, ℕ, ◌<◌, Some, sym, ap, ◌∙◌, ◌≢◌}
use Rattle.model.specs.Net.{count, start_of, finish_of}
use Rattle.fabric.specs.Of.{net}
use Rattle.fabric.specs.declared.network.Fabric.{Fabric}
use Rattle.routing.specs.declared.route.Steps.{Steps}
use Rattle.routing.specs.declared.walk.Hop.{Hop}
use Rattle.routing.specs.Walks.{Leads}
use Rattle.routing.specs.Ways.{IsStep}

-- a channel of a fabric is not followed by itself
apart : (f : Fabric) (u c d : ℕ) → c < count (net f) → finish_of (net f) c ≡ u → start_of (net f) d ≡ u → c ≢ d
apart f u c d l e q same = (f.inside c l).2 (ap (start_of (net f)) same ∙ q ∙ sym e)

-- the channel taken last and that of the next hop
pub is_step : {R : Type 0} (was : Steps R) (c : ℕ) (hop : Hop) → was.last ≡ Some c → Leads (net was.rest.fabric.now) was.rest.switch hop
    → IsStep (net was.rest.fabric.now) (record { tail = c; head = hop.channel })
is_step was c hop e l =
    let here = was.comes c e in
    record { from = here.0; to = l.there; apart = apart was.rest.fabric.now was.rest.switch c hop.channel here.0 here.1 l.leaves }
