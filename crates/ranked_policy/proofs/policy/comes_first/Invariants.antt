use Rattle.std.proofs.Common.{◌↔◌, drop}
use Rattle.ranked_policy.specs.Laws.{Above}
use Rattle.ranked_policy.proofs.policy.comes_first.Given as goal

abbrev pub invariant-loop-listed : goal.invariant-loop-listed
invariant-loop-listed l = Above l.paths l.a l.b ↔ Above (drop l.listed-index l.paths) l.a l.b
