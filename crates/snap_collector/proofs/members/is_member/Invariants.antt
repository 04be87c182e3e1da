use Rattle.std.proofs.Common.{◌≡◌, drop, map}
use Rattle.snap_collector.specs.Collecting.{member_of}
use Rattle.snap_collector.specs.Verdicts.{is_member}
use Rattle.snap_collector.proofs.members.is_member.Given as goal

-- what is left decides
abbrev pub invariant-loop-member : goal.invariant-loop-member
invariant-loop-member l = is_member (map member_of l.members) l.router ≡ is_member (map member_of (drop l.member-index l.members)) l.router
