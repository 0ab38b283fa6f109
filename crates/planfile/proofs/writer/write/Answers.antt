use Rattle.std.proofs.Common.{◌≡◌, ◌≢◌, ℕ, ◌+◌, ◌*◌, ◌<◌, List, ◌++◌, length, get_or, drop, IfSome, sym, refl, ap, ◌∙◌, subst, arith, rules, tests}
use Rattle.std.proofs.lemmas.List.{length-map}
use Rattle.fabric.specs.Of.{net}
use Rattle.model.specs.Net.{Net, Channel}
use Rattle.model.specs.Rules.{Rule}
use Rattle.planfile.specs.File.{file_bytes, head_bytes, hop_byte, hops_body, lane_body, link_body, rows}
use Rattle.planfile.specs.Writes.{Named}
use Rattle.planfile.proofs.Fronts.{written, length_file, file_of_parts, write_passes, write_short}
use Rattle.planfile.proofs.Rows.{length_rows, rows_back}
use Rattle.planfile.proofs.writer.write.Goals as goal

pub returns-then-out-end : goal.returns-then-out-end
returns-then-out-end g c =
    let N : Net = net c.args.fabric.now in
    let rule : Rule = g.R.RouteRule.maps c.args.rule.now in
    let l = length_file N c.args.lanes rule in
    let q = ap (λ (z : ℕ). z * z) c.switch_count-switches.ensures.is in
    (sym (write_short c.args.lanes (length (file_bytes N c.args.lanes rule)) (length c.args.out.now) (omega arith) (omega arith) (omega (arith, l))), refl)

pub returns : goal.returns
returns g c =
    let N : Net = net c.args.fabric.now in
    let rule : Rule = g.R.RouteRule.maps c.args.rule.now in
    let lanes : ℕ = c.args.lanes in
    let n : ℕ = c.switch_count-switches.result in
    let en : n ≡ N.switches = c.switch_count-switches.ensures.is in
    let es : n * n ≡ N.switches * N.switches = ap (λ (z : ℕ). z * z) en in
    let ends : ℕ = c.channel_count-ends.result in
    let l = length_file N lanes rule in
    let ll = length-map N.channels (λ (x : Channel). x.start) in
    let lh = length_rows N.switches (hop_byte rule) in
    let lr = length_rows N.switches rule.lane in
    let h : List ℕ = c.copy_from_slice.new.self in
    let b : List ℕ = c.write_links.new.body in
    let hops = c.write_rows.ensures in
    let x : List ℕ = c.write_rows.new.out in
    let rows_of_lanes = c.write_rows-2.ensures in
    let y : List ℕ = c.write_rows-2.new.out in
    let hop : (u d : ℕ) → u < n → d < n → (u ≢ d) → hop_byte rule u d ≡ get_or x (u * n + d) 0 = λ u d hu hd ne.
    let post = hops.others u d hu hd ne in search (rules, tests) in
    let named : (u d : ℕ) → u < n → d < n → (u ≢ d) → IfSome (rule.next u d) (λ k. k < 255) = λ u d hu hd ne.
    let post = hops.others u d hu hd ne in search (rules, tests) in
    let lane : (u d : ℕ) → u < n → d < n → (u ≢ d) → rule.lane u d ≡ get_or y (u * n + d) 0 = λ u d hu hd ne.
    let post = rows_of_lanes.others u d hu hd ne in search (rules, tests) in
    let e0 : 1 + ends ≡ length (link_body N) = omega arith in
    let e1 : n * n ≡ length (hops_body N rule) = es ∙ sym lh in
    let e2 : 1 + n * n ≡ length (lane_body N lanes rule) = omega arith in
    let eh : h ≡ head_bytes (length (link_body N)) (length (hops_body N rule)) (length (lane_body N lanes rule)) =
    c.copy_from_slice.ensures.after ∙ c.head.ensures ∙ cc in
    let ex : x ≡ hops_body N rule = rows_back n x (hop_byte rule) (omega arith) hops.long hops.diagonal hop ∙ ap (λ (z : ℕ). rows z (hop_byte rule)) en in
    let ey : y ≡ rows N.switches rule.lane = rows_back n y rule.lane (omega arith) rows_of_lanes.long rows_of_lanes.diagonal lane ∙ ap (λ (z : ℕ). rows z rule.lane) en in
    let W = written c.args.out.now h b x y c.get.result ends (n * n) (ap length eh) (ap length c.write_links.ensures ∙ omega arith) hops.long (omega arith) in (
      write_passes lanes (length (file_bytes N lanes rule)) (length c.args.out.now) (omega arith) (omega arith) (omega arith),
      omega arith,
      W ∙ ap (λ (z : List ℕ). z ++ drop (26 + ends + n * n + 1 + n * n) c.args.out.now) (file_of_parts N lanes rule h b x y c.get.result eh c.write_links.ensures ex (c.get.ensures.is ∙ c.in_ok-lanes.ensures.0) ey),
      subst (λ (z : ℕ). Named z rule) en named,
    )
