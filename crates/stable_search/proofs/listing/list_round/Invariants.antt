-- the routers passed are done
use Rattle.stable_search.specs.Listing.{AreListed}
use Rattle.stable_search.proofs.listing.list_round.Given as goal

abbrev pub invariant-loop-place : goal.invariant-loop-place
invariant-loop-place l = AreListed l.instance l.count l.place l.seats.items
