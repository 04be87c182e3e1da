-- the best of the peers passed is an offer
use Rattle.std.specs.Prelude.{IfSome}
use Rattle.stable_search.specs.Fixing.{IsOfferAt}
use Rattle.stable_search.proofs.fixing.best_peer.Given as goal

abbrev pub invariant-loop-place : goal.invariant-loop-place
invariant-loop-place l = IfSome l.best (IsOfferAt l.network.links l.choosers l.fixed l.it)
