use Rattle.std.proofs.Common.{arith}
use Rattle.bgp_codec.specs.Opens.{CapFits}
use Rattle.bgp_codec.proofs.OpenLoops.{drop_one, fits_on, fits_not, fits_end}
use Rattle.bgp_codec.proofs.open.caps_fit.Goals as goal

pub loop-cap-preserved : goal.loop-cap-preserved
loop-cap-preserved c =
    fits_on CapFits c.args.caps.now _ _ c.cap-item.result (drop_one c.args.caps.now c.loop-cap.cap-index c.cap-item.result c.loop-cap-test.true c.cap-item.is)
    (omega (arith, c.len.ensures.len, c.if-len-gt255.false)) c.loop-cap.invariant

pub returns-then-len-gt255 : goal.returns-then-len-gt255
returns-then-len-gt255 c =
    fits_not CapFits c.args.caps.now _ _ c.cap-item.result (drop_one c.args.caps.now c.loop-cap.cap-index c.cap-item.result c.loop-cap-test.true c.cap-item.is)
    (λ p. omega (arith, c.len.ensures.len, c.if-len-gt255.true)) c.loop-cap.invariant

pub returns : goal.returns
returns c = fits_end CapFits c.args.caps.now c.loop-cap.cap-index c.loop-cap-test.false c.loop-cap.invariant
