-- no mark is lost
use Rattle.std.proofs.Common.{◌≡◌, length}
use Rattle.stable_search.specs.Picks.{MarksMore}
use Rattle.stable_search.proofs.sampling.try_value.Given as goal

abbrev pub invariant-loop-pick : goal.invariant-loop-pick
invariant-loop-pick l = (length l.seen ≡ length l.fn.seen) × MarksMore l.fn.seen l.seen
