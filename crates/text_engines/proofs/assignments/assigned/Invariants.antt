-- what the entries passed give
use Rattle.std.proofs.Common.{take}
use Rattle.text_engines.specs.Checking.{Assign}
use Rattle.text_engines.proofs.assignments.assigned.Given as goal

abbrev pub invariant-loop-entry : goal.invariant-loop-entry
invariant-loop-entry l = Assign l.origins (take l.entry-index l.entries) l.all.items
