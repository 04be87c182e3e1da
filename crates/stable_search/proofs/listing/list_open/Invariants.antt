-- all of at most so many routers
use Rattle.stable_search.specs.Listing.{AreListed}
use Rattle.stable_search.proofs.listing.list_open.Given as goal

abbrev pub invariant-loop-count : goal.invariant-loop-count
invariant-loop-count l = AreListed l.instance l.count 0 l.seats.items
