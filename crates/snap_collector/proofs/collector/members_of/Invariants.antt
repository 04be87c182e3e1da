-- the members so far are those of the routers passed
use Rattle.std.proofs.Common.{◌≡◌, map, take}
use Rattle.std.specs.List.{All}
use Rattle.ranked_policy.specs.Plans.{numbers}
use Rattle.snap_collector.specs.Collector.{HasPeers}
use Rattle.snap_collector.proofs.collector.members_of.Given as goal

abbrev pub invariant-loop-router : goal.invariant-loop-router
invariant-loop-router l = (map (λ m. m.router) l.members.items ≡ numbers (take l.router-index l.network.routers)) × All (HasPeers l.network) l.members.items
