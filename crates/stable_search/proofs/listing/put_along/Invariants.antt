-- along the paths passed
use Rattle.std.proofs.Common.{take}
use Rattle.stable_search.proofs.ListingLemmas.{Along}
use Rattle.stable_search.proofs.listing.put_along.Given as goal

abbrev pub invariant-loop-rest : goal.invariant-loop-rest
invariant-loop-rest l = Along l.it l.bound l.count l.fn.found.items (take l.rest-index l.theirs) l.found.items
