-- the path holds over the peers passed
use Rattle.std.proofs.Common.{◌<◌, ℕ, get_or, None}
use Rattle.ranked_policy.specs.Plans.{Linked}
use Rattle.stable_search.specs.Fixing.{HoldsOver}
use Rattle.stable_search.specs.Seats.{StandsAt}
use Rattle.stable_search.specs.declared.chooser.Chooser.{Chooser}
use Rattle.stable_search.proofs.fixing.holds_over_all.Given as goal

abbrev pub invariant-loop-place : goal.invariant-loop-place
invariant-loop-place l =
    (place : ℕ) (peer : Chooser) → place < l.place → StandsAt l.choosers place peer → Linked l.network.links l.it.router peer.router
    → HoldsOver l.it.policy l.it.router peer.router l.path (get_or l.fixed place None) (get_or l.distances place 0)
