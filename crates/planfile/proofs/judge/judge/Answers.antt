use Rattle.planfile.proofs.Faulty.{hops_marred, lanes_marred, plain_whole}
use Rattle.planfile.proofs.judge.judge.Goals as goal

pub returns-in-Some : goal.returns-in-Some
returns-in-Some c =
    let l = c.in_ok-links.ensures in
    let t = c.in_ok-tables.ensures in
    hops_marred c.args.bytes.now c.in_ok-links.links.switches _ _ t.0 l.1.switches t.1.hops c.in-Some.ensures

pub returns-in-Some-first_marred : goal.returns-in-Some-first_marred
returns-in-Some-first_marred c =
    let l = c.in_ok-links.ensures in
    let t = c.in_ok-tables.ensures in
    lanes_marred c.args.bytes.now c.in_ok-links.links.switches _ _ _ t.0 l.1.switches t.1.hops t.1.lanes c.in_default.ensures
    c.in-Some-first_marred.ensures

pub returns : goal.returns
returns c =
    let l = c.in_ok-links.ensures in
    let t = c.in_ok-tables.ensures in (
      record {
        placed = t.0;
        hops = plain_whole _ _ _ _ l.1.switches t.1.hops c.in_default.ensures;
        lanes = plain_whole _ _ _ _ l.1.switches t.1.lanes c.in_default-first_marred.ensures;
      },
      l.1,
      t.1,
    )
