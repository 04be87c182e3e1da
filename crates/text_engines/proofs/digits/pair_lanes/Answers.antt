use Rattle.text_engines.proofs.HexLanes.{pairs_are}
use Rattle.text_engines.proofs.digits.pair_lanes.Goals as goal

pub returns : goal.returns
returns c = pairs_are c.args.values c.fits-values.0
