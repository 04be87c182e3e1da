-- the paths of the lengths passed are out
use Rattle.std.proofs.Common.{◌≡◌}
use Rattle.wheel_search.specs.Lists.{walks_to, number_at}
use Rattle.wheel_search.proofs.listing.joined.Given as goal

abbrev pub invariant-loop-level : goal.invariant-loop-level
invariant-loop-level l = l.out.items ≡ walks_to l.instance.net l.instance.prefix l.level-index (number_at l.instance l.place)
