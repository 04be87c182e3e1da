-- no path passed is longer
use Rattle.std.proofs.Common.{◌<◌, ◌≤◌, ℕ, List, length, get_or}
use Rattle.stable_search.proofs.reach.longest_of.Given as goal

abbrev pub invariant-loop-path : goal.invariant-loop-path
invariant-loop-path l = (k : ℕ) (d : List ℕ) → k < l.path-index → length (get_or l.paths k d) ≤ l.longest
