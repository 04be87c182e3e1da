use Rattle.prefix_lanes.proofs.Found.{lanes_alike}
use Rattle.prefix_lanes.proofs.cover_table.alike.Goals as goal

pub returns : goal.returns
returns c = lanes_alike c.args.addr c.args.masks c.args.addrs c.fits-masks.0 c.fits-addrs.0
