use Rattle.std.proofs.Common.{◌≡◌, drop, map}
use Rattle.snap_collector.specs.Collecting.{made_in, member_of}
use Rattle.snap_collector.specs.Verdicts.{first_fault}
use Rattle.snap_collector.proofs.verdicts.faults.Given as goal

-- what is left decides
abbrev pub invariant-loop-slot : goal.invariant-loop-slot
invariant-loop-slot l = first_fault (map member_of l.members) (made_in l.offers) ≡ first_fault (map member_of (drop l.slot l.members)) (made_in l.offers)
