use Rattle.std.proofs.Common.{take}
use Rattle.std.specs.List.{All}
use Rattle.ranked_policy.specs.Plans.{IsRouter}
use Rattle.ranked_policy.proofs.admission.are_known.Given as goal

abbrev pub invariant-loop-path : goal.invariant-loop-path
invariant-loop-path l = All (All (IsRouter l.routers)) (take l.path-index l.paths)
