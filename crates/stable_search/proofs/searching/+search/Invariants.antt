-- what was found and the sets left are what the sets were; each step is counted; there are not more than may be
use Rattle.std.proofs.Common.{◌≤◌, length}
use Rattle.stable_search.specs.Picks.{LeavesOut}
use Rattle.stable_search.proofs.searching.+search.Given as goal

abbrev pub decreases-search : goal.decreases-search
decreases-search l = l.steps.now

abbrev pub invariant-loop-steps : goal.invariant-loop-steps
invariant-loop-steps l =
    LeavesOut l.ways l.fn.sets.items l.sets.items l.fn.found.items l.found.items × (l.steps ≤ l.fn.steps)
    × (length l.fn.found.items ≤ l.most → length l.found.items ≤ l.most)

abbrev pub decreases-loop-steps : goal.decreases-loop-steps
decreases-loop-steps l = l.steps
