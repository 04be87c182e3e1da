-- over each link to a place passed there is a way
use Rattle.std.proofs.Common.{◌<◌, ℕ}
use Rattle.std.specs.List.{All}
use Rattle.ranked_policy.specs.Plans.{Linked}
use Rattle.stable_search.specs.declared.seat.Seat.{Seat}
use Rattle.stable_search.specs.Seats.{StandsAt, IsWayOf, HasWay}
use Rattle.stable_search.proofs.relating.add_ways.Given as goal

abbrev pub invariant-loop-to : goal.invariant-loop-to
invariant-loop-to l =
    (All (IsWayOf l.network.links l.seats) l.fn.ways.items → All (IsWayOf l.network.links l.seats) l.ways.items)
    × ((one other : ℕ) → HasWay l.fn.ways.items one other → HasWay l.ways.items one other)
    × ((to : ℕ) (one other : Seat) → to < l.to → StandsAt l.seats l.from one → StandsAt l.seats to other → Linked l.network.links one.router other.router → HasWay l.ways.items l.from to)
