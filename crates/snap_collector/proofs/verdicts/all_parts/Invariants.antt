use Rattle.std.proofs.Common.{◌≡◌, drop, map}
use Rattle.snap_collector.specs.Collecting.{made_in, member_of}
use Rattle.snap_collector.specs.Verdicts.{all_parts}
use Rattle.snap_collector.proofs.verdicts.all_parts.Given as goal

-- what is left decides
abbrev pub invariant-loop-slot : goal.invariant-loop-slot
invariant-loop-slot l = all_parts (map member_of l.members) (made_in l.offers) ≡ all_parts (map member_of (drop l.slot l.members)) (made_in l.offers)
