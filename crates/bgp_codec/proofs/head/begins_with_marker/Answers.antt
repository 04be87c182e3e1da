use Rattle.bgp_codec.proofs.MarkerLemmas.{marker_test}
use Rattle.bgp_codec.proofs.head.begins_with_marker.Goals as goal

pub returns : goal.returns
returns c = marker_test c.args.octets.now c.unwrap-marker.result.now c.is_marker.result (rw c.unwrap-marker.ensures at c.first_chunk.ensures.cases).same c.is_marker.ensures
