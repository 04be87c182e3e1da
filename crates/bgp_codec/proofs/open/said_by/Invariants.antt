-- those passed say no number
use Rattle.std.proofs.Common.{◌≡◌, drop}
use Rattle.bgp_codec.specs.Opens.{first_said, number_said}
use Rattle.bgp_codec.proofs.open.said_by.Given as goal

abbrev pub invariant-loop-cap : goal.invariant-loop-cap
invariant-loop-cap l = first_said number_said l.caps ≡ first_said number_said (drop l.cap-index l.caps)
