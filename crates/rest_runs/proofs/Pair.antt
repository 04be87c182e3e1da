-- By computation.
use Rattle.std.proofs.Common.{refl}
use Rattle.marker_lanes.specs.Marker as lanes
use Rattle.bgp_codec.specs.Faults.{reading}
use Rattle.bgp_codec.specs.Header.{begins_with_marker, header_fault}
use Rattle.bgp_codec.specs.Opens.{open_reading}
use Rattle.bgp_codec.specs.Reading.{all_in}
use Rattle.bgp_codec.specs.UpdateReading.{update_reading, attrs_in}
use Rattle.bgp_codec.specs.Spelling.{header_of, framed}
use Rattle.router_model.specs.Sides.{react, react_once, apply, react_to_sign}
use Rattle.rest_runs.specs.Examples.{OneDecisionAndRest, SumAdds, SessionAndRest, WorkOfThePair}

pub rests : OneDecisionAndRest
rests = (refl, refl)

pub adds : SumAdds
adds = refl

pub session : SessionAndRest
unfolding react react_once apply react_to_sign header_of framed header_fault begins_with_marker reading open_reading all_in update_reading attrs_in lanes.marker
session = (refl, refl, refl, refl)

pub works : WorkOfThePair
works = (refl, refl, refl)
