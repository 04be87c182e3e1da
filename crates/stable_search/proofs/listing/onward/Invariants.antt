-- over the peers passed
use Rattle.std.proofs.Common.{take}
use Rattle.stable_search.proofs.ListingLemmas.{Over}
use Rattle.stable_search.proofs.listing.onward.Given as goal

abbrev pub invariant-loop-peer : goal.invariant-loop-peer
invariant-loop-peer l = Over l.it l.bound l.count l.network.links (take l.peer-index l.seats) l.found.items
