-- the best over the links passed
use Rattle.std.proofs.Common.{take}
use Rattle.ranked_policy.specs.Choices.{HasPathOver, IsFirstOrNone, path_by}
use Rattle.stable_paths.specs.Stable.{path_of}
use Rattle.stable_paths.proofs.choosing.best_of.Given as goal

abbrev pub invariant-loop-link : goal.invariant-loop-link
invariant-loop-link l =
    IsFirstOrNone (HasPathOver (take l.link-index l.link-items) (path_of l.assignment) l.table.router) l.table l.instance.prefix (path_by l.router l.best)
