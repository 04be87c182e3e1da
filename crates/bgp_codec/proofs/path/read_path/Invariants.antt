-- what was read, before what is left to read, is what is read of all
use Rattle.std.proofs.Common.{◌≡◌, length}
use Rattle.bgp_codec.specs.UpdateReading.{path_reading}
use Rattle.bgp_codec.proofs.EachLemmas.{with_front}
use Rattle.bgp_codec.proofs.path.read_path.Given as goal

abbrev pub invariant-segments : goal.invariant-segments
invariant-segments l = path_reading l.width l.octets ≡ with_front l.segments (path_reading l.width l.left)

abbrev pub decreases-segments : goal.decreases-segments
decreases-segments l = length l.left
