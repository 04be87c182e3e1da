-- the routers passed may have what they have
use Rattle.std.proofs.Common.{ℕ, ◌<◌}
use Rattle.std.specs.Prelude.{slice_index}
use Rattle.ranked_policy.specs.Plans.{numbers}
use Rattle.stable_paths.specs.Stable.{path_of, MayHave}
use Rattle.stable_paths.proofs.stability.permit_all.Given as goal

abbrev pub invariant-loop-router : goal.invariant-loop-router
invariant-loop-router l =
    (k : ℕ) → k < l.router-index → MayHave l.instance.net l.instance.prefix (slice_index (numbers l.instance.net.routers) k) (path_of l.assignment (slice_index (numbers l.instance.net.routers) k))
