-- the ends of the links from the places passed
use Rattle.std.proofs.Common.{◌<◌, ℕ}
use Rattle.std.specs.List.{All}
use Rattle.stable_search.specs.Seats.{IsEndOf, HasWaysFrom}
use Rattle.stable_search.proofs.relating.ends_between.Given as goal

abbrev pub invariant-loop-from : goal.invariant-loop-from
invariant-loop-from l = All (IsEndOf l.network.links l.seats) l.ends.items × ((from : ℕ) → from < l.from → HasWaysFrom l.network.links l.seats l.ends.items from)
