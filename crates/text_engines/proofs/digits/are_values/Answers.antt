use Rattle.text_engines.proofs.HexLanes.{all_values}
use Rattle.text_engines.proofs.digits.are_values.Goals as goal

pub returns : goal.returns
returns c = all_values c.args.values c.fits-values.0
