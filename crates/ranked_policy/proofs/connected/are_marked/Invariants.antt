use Rattle.std.proofs.Common.{◌<◌, ℕ}
use Rattle.ranked_policy.specs.Reaching.{IsMarked}
use Rattle.ranked_policy.proofs.connected.are_marked.Given as goal

abbrev pub invariant-loop-place : goal.invariant-loop-place
invariant-loop-place l = (k : ℕ) → k < l.place → IsMarked l.reached k
