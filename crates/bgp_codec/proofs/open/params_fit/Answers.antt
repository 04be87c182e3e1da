use Rattle.std.proofs.Common.{arith}
use Rattle.bgp_codec.specs.Opens.{ParamFits}
use Rattle.bgp_codec.proofs.OpenLoops.{drop_one, fits_on, fits_end}
use Rattle.bgp_codec.proofs.open.params_fit.Goals as goal

pub loop-caps-preserved : goal.loop-caps-preserved
loop-caps-preserved c =
    let size = rw c.as_slice-caps.ensures at c.caps_len.ensures in
    fits_on ParamFits c.args.params.now _ _ c.caps-item.result (drop_one c.args.params.now c.loop-caps.caps-index c.caps-item.result c.loop-caps-test.true c.caps-item.is)
    ((rw c.as_slice-caps.ensures at c.caps_fit.ensures).0 c.if-not-caps_fit.false, omega (arith, size, c.if-caps_len-gt255.false)) c.loop-caps.invariant

pub returns : goal.returns
returns c = fits_end ParamFits c.args.params.now c.loop-caps.caps-index c.loop-caps-test.false c.loop-caps.invariant
