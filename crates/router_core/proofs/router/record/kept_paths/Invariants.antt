use Rattle.std.proofs.Common.{◌≡◌, take}
use Rattle.router_core.specs.Recorded.{paths_of}
use Rattle.router_core.proofs.router.record.kept_paths.Given as goal

-- the paths so far
abbrev pub invariant-loop-prefix_at : goal.invariant-loop-prefix_at
invariant-loop-prefix_at l = l.kept.items ≡ paths_of (take l.prefix_at l.origins) l.tables.kept
