-- over each link to a place passed there is an end
use Rattle.std.proofs.Common.{◌<◌, ℕ}
use Rattle.std.specs.List.{All}
use Rattle.ranked_policy.specs.Plans.{Linked}
use Rattle.stable_search.specs.declared.seat.Seat.{Seat}
use Rattle.stable_search.specs.Seats.{StandsAt, IsEndOf, HasWay}
use Rattle.stable_search.proofs.relating.add_ends.Given as goal

abbrev pub invariant-loop-to : goal.invariant-loop-to
invariant-loop-to l =
    (All (IsEndOf l.network.links l.seats) l.fn.ends.items → All (IsEndOf l.network.links l.seats) l.ends.items)
    × ((one other : ℕ) → HasWay l.fn.ends.items one other → HasWay l.ends.items one other)
    × ((to : ℕ) (one other : Seat) → to < l.to → StandsAt l.seats l.from one → StandsAt l.seats to other → Linked l.network.links one.router other.router → HasWay l.ends.items l.from to)
