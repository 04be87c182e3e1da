-- the gates of the workers that were read left out none
use Rattle.std.proofs.Common.{take}
use Rattle.thread_engines.specs.Gates.{HaveTakenAll}
use Rattle.thread_engines.proofs.run.have_taken_all.Given as goal

abbrev pub invariant-loop-worked : goal.invariant-loop-worked
invariant-loop-worked l = HaveTakenAll (take l.worked-index l.workers)
