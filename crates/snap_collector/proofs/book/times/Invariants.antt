-- those passed and those of what is left are all
use Rattle.std.proofs.Common.{◌≡◌, ◌≤◌, ◌+◌, drop, map}
use Rattle.snap_collector.specs.Booking.{times}
use Rattle.snap_collector.specs.Collecting.{member_of}
use Rattle.snap_collector.proofs.book.times.Given as goal

abbrev pub invariant-loop-member : goal.invariant-loop-member
invariant-loop-member l =
    (l.count ≤ l.member-index) × (l.count + times (map member_of (drop l.member-index l.members)) l.router ≡ times (map member_of l.members) l.router)
