use Rattle.std.proofs.Common.{arith}
use Rattle.bgp_codec.specs.Opens.{cap_octets}
use Rattle.bgp_codec.proofs.OpenLoops.{count_one, count_all}
use Rattle.bgp_codec.proofs.open.caps_len.Goals as goal

pub loop-cap-preserved : goal.loop-cap-preserved
loop-cap-preserved c =
    let n = count_one cap_octets c.args.caps.now c.loop-cap.cap-index c.cap-item.result c.loop-cap-test.true c.cap-item.is in
    rw n (omega (arith, c.loop-cap.invariant, c.saturating_add.ensures, c.saturating_add-len.ensures, c.len.ensures.len))

pub returns : goal.returns
returns c = let n = count_all cap_octets c.args.caps.now c.loop-cap.cap-index c.loop-cap-test.false in rw n at c.loop-cap.invariant
