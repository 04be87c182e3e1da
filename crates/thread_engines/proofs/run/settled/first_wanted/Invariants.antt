-- none of the numbers passed is wanted
use Rattle.std.proofs.Common.{◌≡◌, ◌<◌, ◌≤◌, ℕ, false}
use Rattle.thread_engines.specs.Running.{is_wanted}
use Rattle.thread_engines.proofs.run.settled.first_wanted.Given as goal

abbrev pub invariant-loop-before : goal.invariant-loop-before
invariant-loop-before l = (s : ℕ) → 0 < s → s ≤ l.before → is_wanted l.network l.collector s ≡ false
