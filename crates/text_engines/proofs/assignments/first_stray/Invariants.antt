-- the entries passed are permitted
use Rattle.std.proofs.Common.{take}
use Rattle.std.specs.List.{All}
use Rattle.text_engines.specs.Checking.{MayStand}
use Rattle.text_engines.proofs.assignments.first_stray.Given as goal

abbrev pub invariant-loop-entry : goal.invariant-loop-entry
invariant-loop-entry l = All (MayStand l.network) (take l.entry-index l.entries)
