-- the routers passed have seats
use Rattle.std.proofs.Common.{◌≡◌, take, map}
use Rattle.std.specs.List.{All}
use Rattle.stable_search.specs.Listing.{IsListing}
use Rattle.stable_search.proofs.seat.seats.Given as goal

abbrev pub invariant-loop-place : goal.invariant-loop-place
invariant-loop-place l = (map (λ seat. seat.router) l.seats.items ≡ map (λ it. it.router) (take l.place l.choosers)) × All (IsListing l.instance 1) l.seats.items
