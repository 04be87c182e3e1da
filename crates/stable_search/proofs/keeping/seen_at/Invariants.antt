-- the values of the picks passed
use Rattle.std.proofs.Common.{◌<◌, ℕ, [], get_or}
use Rattle.stable_search.specs.Picks.{Has}
use Rattle.stable_search.proofs.keeping.seen_at.Given as goal

abbrev pub invariant-loop-pick : goal.invariant-loop-pick
invariant-loop-pick l = (j : ℕ) → j < l.pick-index → Has l.seen (get_or (get_or l.picks j []) l.k 0)
