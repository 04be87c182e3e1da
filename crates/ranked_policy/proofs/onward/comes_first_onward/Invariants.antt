-- what is passed decides nothing
use Rattle.std.proofs.Common.{◌↔◌, ◌∷◌, drop}
use Rattle.ranked_policy.specs.Laws.{Above}
use Rattle.ranked_policy.proofs.onward.comes_first_onward.Given as goal

abbrev pub invariant-loop-listed : goal.invariant-loop-listed
invariant-loop-listed l = Above l.paths (l.router ∷ l.a) (l.router ∷ l.b) ↔ Above (drop l.listed-index l.paths) (l.router ∷ l.a) (l.router ∷ l.b)
