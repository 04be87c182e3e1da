use Rattle.std.proofs.Common.{take}
use Rattle.std.specs.List.{All}
use Rattle.ranked_policy.specs.Plans.{IsRouter}
use Rattle.ranked_policy.proofs.admission.are_routers.Given as goal

abbrev pub invariant-loop-asn : goal.invariant-loop-asn
invariant-loop-asn l = All (IsRouter l.routers) (take l.asn-index l.asns)
