use Rattle.text_engines.proofs.HexLanes.{values_are}
use Rattle.text_engines.proofs.digits.lanes_of.Goals as goal

pub returns : goal.returns
returns c = values_are c.args.digits c.fits-digits.0 c.fits-digits.1
