-- the routers passed have their paths
use Rattle.std.proofs.Common.{◌≡◌, take, map, length}
use Rattle.ranked_policy.specs.Plans.{numbers}
use Rattle.wheel_search.specs.Lists.{walks}
use Rattle.wheel_search.proofs.listing.next_level.Given as goal

abbrev pub invariant-loop-place : goal.invariant-loop-place
invariant-loop-place l = l.out.items ≡ map (walks l.instance.net l.instance.prefix (length l.levels)) (take l.place (numbers l.instance.net.routers))
