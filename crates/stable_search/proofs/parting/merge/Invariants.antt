-- the labels passed are merged, and the others as they were
use Rattle.std.proofs.Common.{◌≡◌, ◌<◌, ◌≤◌, ◌==◌, ℕ, cond, get_or}
use Rattle.stable_search.proofs.parting.merge.Given as goal

abbrev pub invariant-loop-label : goal.invariant-loop-label
invariant-loop-label l =
    ((k : ℕ) → k < l.label-index → get_or l.labels k 0 ≡ cond (get_or l.fn.labels k 0 == l.other) l.one (get_or l.fn.labels k 0))
    × ((k : ℕ) → l.label-index ≤ k → get_or l.labels k 0 ≡ get_or l.fn.labels k 0)
