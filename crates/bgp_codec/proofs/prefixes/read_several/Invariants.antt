-- what was read, before what is left to read, is what is read of all
use Rattle.std.proofs.Common.{◌≡◌, length}
use Rattle.bgp_codec.specs.UpdateReading.{prefixes_reading}
use Rattle.bgp_codec.proofs.EachLemmas.{with_front}
use Rattle.bgp_codec.proofs.prefixes.read_several.Given as goal

abbrev pub invariant-prefixes : goal.invariant-prefixes
invariant-prefixes l = prefixes_reading l.octets ≡ with_front l.prefixes.items (prefixes_reading l.left)

abbrev pub decreases-prefixes : goal.decreases-prefixes
decreases-prefixes l = length l.left
