-- of the routers passed all that would move are listed
use Rattle.std.proofs.Common.{take}
use Rattle.stable_paths.specs.Stable.{path_of}
use Rattle.stable_paths.specs.Judging.{AreMovers}
use Rattle.stable_paths.proofs.stability.movers.Given as goal

abbrev pub invariant-loop-router : goal.invariant-loop-router
invariant-loop-router l = AreMovers l.instance (path_of l.assignment) (take l.router-index l.instance.net.routers) l.movers.items
