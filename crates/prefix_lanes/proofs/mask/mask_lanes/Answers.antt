use Rattle.prefix_lanes.proofs.Lanes.{lanes_cleared}
use Rattle.prefix_lanes.proofs.mask.mask_lanes.Goals as goal

pub returns : goal.returns
returns c = lanes_cleared c.args.words c.args.lens c.fits-lens.0 c.fits-words.1 c.requires
