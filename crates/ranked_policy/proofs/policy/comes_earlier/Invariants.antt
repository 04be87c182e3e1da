use Rattle.std.proofs.Common.{◌↔◌, drop}
use Rattle.ranked_policy.specs.Laws.{Earlier}
use Rattle.ranked_policy.proofs.policy.comes_earlier.Given as goal

abbrev pub invariant-loop-i : goal.invariant-loop-i
invariant-loop-i l = Earlier l.a l.b ↔ Earlier (drop l.i l.a) (drop l.i l.b)
