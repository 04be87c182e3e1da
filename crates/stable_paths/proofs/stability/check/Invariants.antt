-- the routers passed have their best
use Rattle.std.proofs.Common.{ℕ, ◌<◌}
use Rattle.std.specs.Prelude.{slice_index}
use Rattle.ranked_policy.specs.Plans.{numbers}
use Rattle.stable_paths.specs.Stable.{path_of, IsBest}
use Rattle.stable_paths.proofs.stability.check.Given as goal

abbrev pub invariant-loop-router : goal.invariant-loop-router
invariant-loop-router l =
    (k : ℕ) → k < l.router-index → IsBest l.instance (path_of l.assignment) (slice_index (numbers l.instance.net.routers) k) (path_of l.assignment (slice_index (numbers l.instance.net.routers) k))
