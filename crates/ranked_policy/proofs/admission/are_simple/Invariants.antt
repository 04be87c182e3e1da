use Rattle.std.proofs.Common.{take}
use Rattle.std.specs.List.{All}
use Rattle.ranked_policy.specs.Paths.{BeginsWith, IsSimple}
use Rattle.ranked_policy.proofs.admission.are_simple.Given as goal

abbrev pub invariant-loop-path : goal.invariant-loop-path
invariant-loop-path l = All (λ path. BeginsWith path l.router × IsSimple path) (take l.path-index l.paths)
