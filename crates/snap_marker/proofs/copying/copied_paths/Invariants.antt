use Rattle.std.proofs.Common.{◌≡◌, take}
use Rattle.snap_marker.proofs.copying.copied_paths.Given as goal

-- what is passed is copied
abbrev pub invariant-loop-one : goal.invariant-loop-one
invariant-loop-one l = l.copy.items ≡ take l.one-index l.kept
