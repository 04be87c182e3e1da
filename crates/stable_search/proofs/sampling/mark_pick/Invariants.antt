-- no mark is lost
use Rattle.std.proofs.Common.{◌≡◌, length}
use Rattle.stable_search.specs.Picks.{MarksMore}
use Rattle.stable_search.proofs.sampling.mark_pick.Given as goal

abbrev pub invariant-loop-place : goal.invariant-loop-place
invariant-loop-place l = (length l.seen ≡ length l.fn.seen) × MarksMore l.fn.seen l.seen
