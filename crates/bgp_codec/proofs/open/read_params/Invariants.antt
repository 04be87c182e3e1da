-- what was read, before what is left to read, is what is read of all
use Rattle.std.proofs.Common.{◌≡◌, length}
use Rattle.bgp_codec.specs.Opens.{params_reading}
use Rattle.bgp_codec.proofs.EachLemmas.{with_front}
use Rattle.bgp_codec.proofs.open.read_params.Given as goal

abbrev pub invariant-params : goal.invariant-params
invariant-params l = params_reading l.octets ≡ with_front l.params (params_reading l.left)

abbrev pub decreases-params : goal.decreases-params
decreases-params l = length l.left
