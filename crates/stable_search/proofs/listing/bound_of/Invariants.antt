-- a bound, if any
use Rattle.stable_search.specs.Listing.{IsBound}
use Rattle.stable_search.proofs.listing.bound_of.Given as goal

abbrev pub invariant-loop-peer : goal.invariant-loop-peer
invariant-loop-peer l = IsBound l.network.links l.seats l.it l.bound
