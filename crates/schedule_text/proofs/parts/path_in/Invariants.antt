-- what is left has the path
use Rattle.std.proofs.Common.{◌≡◌, drop}
use Rattle.snap_marker.specs.Parts.{kept_in}
use Rattle.schedule_text.proofs.parts.path_in.Given as goal

abbrev pub invariant-loop-one : goal.invariant-loop-one
invariant-loop-one l = kept_in (drop l.one-index l.kept) l.prefix ≡ kept_in l.kept l.prefix
