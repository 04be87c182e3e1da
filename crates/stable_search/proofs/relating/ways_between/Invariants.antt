-- the ways from the places passed
use Rattle.std.proofs.Common.{◌<◌, ℕ}
use Rattle.std.specs.List.{All}
use Rattle.stable_search.specs.Seats.{IsWayOf, HasWaysFrom}
use Rattle.stable_search.proofs.relating.ways_between.Given as goal

abbrev pub invariant-loop-from : goal.invariant-loop-from
invariant-loop-from l = All (IsWayOf l.network.links l.seats) l.ways.items × ((from : ℕ) → from < l.from → HasWaysFrom l.network.links l.seats l.ways.items from)
