-- By computation.
use Rattle.std.proofs.Common.{refl}
use Rattle.marker_lanes.specs.Marker as lanes
use Rattle.bgp_codec.specs.Faults.{reading}
use Rattle.bgp_codec.specs.Header.{begins_with_marker, header_fault}
use Rattle.bgp_codec.specs.Opens.{open_reading}
use Rattle.bgp_codec.specs.Spelling.{header_of, framed}
use Rattle.router_model.specs.Sides.{react, react_once, apply, react_to_sign}
use Rattle.router_model.proofs.examples.no_stamp_is_left.Goals as goal

pub returns : goal.returns
unfolding react react_once apply react_to_sign header_of framed header_fault begins_with_marker reading open_reading lanes.marker
returns c = refl
