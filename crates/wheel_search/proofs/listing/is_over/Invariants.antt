-- the room that is left, and the paths of the lengths passed, with those besides, are so many as there may be
use Rattle.std.proofs.Common.{◌≡◌, ◌+◌, length}
use Rattle.wheel_search.specs.Lists.{walks_to, number_at}
use Rattle.wheel_search.proofs.listing.is_over.Given as goal

abbrev pub invariant-loop-level : goal.invariant-loop-level
invariant-loop-level l =
    l.room + (length (walks_to l.instance.net l.instance.prefix l.level-index (number_at l.instance l.place)) + l.besides) ≡ l.most
