use Rattle.snap_marker.proofs.Places.{found_at}
use Rattle.snap_marker.proofs.links.place_of.Goals as goal

pub returns : goal.returns
returns c = found_at c.args.channels.now c.args.peer _ c.position_of.ensures
