use Rattle.std.proofs.Common.{refl, arith}
use Rattle.planfile.proofs.Entries.{entry_part}
use Rattle.planfile.proofs.contents.contents_of.Goals as goal

pub returns-then-bytes-link : goal.returns-then-bytes-link
returns-then-bytes-link c =
    let link = entry_part c.args.bytes.now 1 c.in_ok-link.link (rw c.in_ok-link.ensures.ok_part at c.read.ensures).1 in
    let hops = entry_part c.args.bytes.now 9 c.in_ok-hops.hops (rw c.in_ok-hops.ensures.ok_part at c.read-2.ensures).1 in
    let lane = entry_part c.args.bytes.now 17 c.in_ok-lane.lane (rw c.in_ok-lane.ensures.ok_part at c.read-3.ensures).1 in
    (refl, λ f. c.if-bytes-link.true (omega (arith, f.whole, link.long, hops.long, lane.long)))

pub returns : goal.returns
returns c =
    let link = entry_part c.args.bytes.now 1 c.in_ok-link.link (rw c.in_ok-link.ensures.ok_part at c.read.ensures).1 in
    let hops = entry_part c.args.bytes.now 9 c.in_ok-hops.hops (rw c.in_ok-hops.ensures.ok_part at c.read-2.ensures).1 in
    let lane = entry_part c.args.bytes.now 17 c.in_ok-lane.lane (rw c.in_ok-lane.ensures.ok_part at c.read-3.ensures).1 in (
      record {
        long = omega arith;
        short = omega arith;
        edition = omega arith;
        whole = omega (arith, c.if-bytes-link.false, link.long, hops.long, lane.long);
      },
      record { link = link; hops = hops; lane = lane },
    )
