use Rattle.std.proofs.Common.{arith}
use Rattle.bgp_codec.specs.Opens.{param_octets}
use Rattle.bgp_codec.proofs.OpenLoops.{count_one, count_all}
use Rattle.bgp_codec.proofs.open.params_len.Goals as goal

pub loop-caps-preserved : goal.loop-caps-preserved
loop-caps-preserved c =
    let n = count_one param_octets c.args.params.now c.loop-caps.caps-index c.caps-item.result c.loop-caps-test.true c.caps-item.is in
    let m = rw c.as_slice.ensures at c.caps_len.ensures in
    rw n (omega (arith, c.loop-caps.invariant, c.saturating_add.ensures, c.saturating_add-len.ensures, m))

pub returns : goal.returns
returns c = let n = count_all param_octets c.args.params.now c.loop-caps.caps-index c.loop-caps-test.false in rw n at c.loop-caps.invariant
