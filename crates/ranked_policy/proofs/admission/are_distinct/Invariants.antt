use Rattle.std.proofs.Common.{take}
use Rattle.std.specs.Prelude.{◌≢◌}
use Rattle.std.specs.List.{AllPairs}
use Rattle.ranked_policy.proofs.admission.are_distinct.Given as goal

abbrev pub invariant-loop-i : goal.invariant-loop-i
invariant-loop-i l = AllPairs (λ path later. path ≢ later) (take l.i l.paths)
