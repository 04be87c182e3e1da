use Rattle.std.proofs.Common.{◌≡◌, take}
use Rattle.snap_marker.proofs.copying.copied_updates.Given as goal

-- what is passed is copied
abbrev pub invariant-loop-update : goal.invariant-loop-update
invariant-loop-update l = l.copy.items ≡ take l.update-index l.updates
