-- each peer passed is farther
use Rattle.std.proofs.Common.{◌<◌, ℕ, get_or}
use Rattle.ranked_policy.specs.Plans.{Linked}
use Rattle.stable_search.specs.Seats.{StandsAt}
use Rattle.stable_search.specs.declared.chooser.Chooser.{Chooser}
use Rattle.stable_search.proofs.distance.has_near_peer.Given as goal

abbrev pub invariant-loop-place : goal.invariant-loop-place
invariant-loop-place l = (place : ℕ) (peer : Chooser) → place < l.place → StandsAt l.choosers place peer → Linked l.network.links l.router peer.router → l.distance < get_or l.distances place 0
