-- the least of the peers passed
use Rattle.std.proofs.Common.{◌≡◌, ◌≤◌, ◌+◌, ◌⊎◌, ℕ, get_or}
use Rattle.ranked_policy.specs.declared.limits.TheConstants.{LONGEST_PATH}
use Rattle.ranked_policy.specs.Plans.{Linked}
use Rattle.stable_search.specs.Seats.{StandsAt}
use Rattle.stable_search.specs.declared.chooser.Chooser.{Chooser}
use Rattle.stable_search.proofs.reach.least_of_peers.Given as goal

abbrev pub invariant-loop-place : goal.invariant-loop-place
invariant-loop-place l =
    (l.least ≤ LONGEST_PATH + 1)
    × ((l.least ≡ LONGEST_PATH + 1) ⊎ ((place : ℕ) × (peer : Chooser) × StandsAt l.choosers place peer × Linked l.network.links l.router peer.router × (l.least ≡ get_or l.reaches place 0)))
