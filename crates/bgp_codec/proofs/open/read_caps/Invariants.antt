-- what was read, before what is left to read, is what is read of all
use Rattle.std.proofs.Common.{◌≡◌, length}
use Rattle.bgp_codec.specs.Opens.{caps_reading}
use Rattle.bgp_codec.proofs.EachLemmas.{with_front}
use Rattle.bgp_codec.proofs.open.read_caps.Given as goal

abbrev pub invariant-caps : goal.invariant-caps
invariant-caps l = caps_reading l.octets ≡ with_front l.caps (caps_reading l.left)

abbrev pub decreases-caps : goal.decreases-caps
decreases-caps l = length l.left
