-- none of those passed is a part of the router
use Rattle.std.proofs.Common.{◌≡◌, ◌≤◌, ◌-◌, Bool, drop, length}
use Rattle.snap_marker.specs.Recordings.{RouterPart}
use Rattle.snap_collector.specs.Collecting.{made_in}
use Rattle.snap_collector.specs.Verdicts.{has_part}
use Rattle.snap_collector.proofs.verdicts.sole_part.Given as goal

abbrev pub invariant-loop-place : goal.invariant-loop-place
invariant-loop-place l =
    (l.place ≤ length l.offers)
    × ((holds : RouterPart → Bool) → has_part (made_in l.offers) l.router holds ≡ has_part (made_in (drop l.place l.offers)) l.router holds)

abbrev pub decreases-loop-place : goal.decreases-loop-place
decreases-loop-place l = length l.offers - l.place
