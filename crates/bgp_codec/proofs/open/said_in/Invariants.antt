-- those passed say no number
use Rattle.std.proofs.Common.{◌≡◌, drop}
use Rattle.bgp_codec.specs.Opens.{first_said, said_by}
use Rattle.bgp_codec.proofs.open.said_in.Given as goal

abbrev pub invariant-loop-caps : goal.invariant-loop-caps
invariant-loop-caps l = first_said said_by l.params ≡ first_said said_by (drop l.caps-index l.params)
