-- for the prefixes passed no router would move
use Rattle.std.proofs.Common.{take}
use Rattle.std.specs.List.{All}
use Rattle.text_engines.specs.Checking.{IsStableAt}
use Rattle.text_engines.proofs.assignments.verdict_output.Given as goal

abbrev pub invariant-loop-place : goal.invariant-loop-place
invariant-loop-place l = All (IsStableAt l.network l.entries) (take l.place l.origins)
