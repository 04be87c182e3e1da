-- the first fault is among the workers that are left
use Rattle.std.proofs.Common.{◌≡◌, drop}
use Rattle.net_workers.specs.Ran.{first_fault}
use Rattle.net_workers.proofs.net.first_fault.Given as goal

abbrev pub invariant-loop-ended : goal.invariant-loop-ended
invariant-loop-ended g l = first_fault l.workers ≡ first_fault (drop l.ended-index l.workers)
