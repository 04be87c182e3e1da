use Rattle.std.proofs.Common.{◌≡◌, drop}
use Rattle.snap_marker.specs.Parts.{waits_for_marker}
use Rattle.snap_marker.proofs.links.waits_for_marker.Given as goal

-- what is left decides
abbrev pub invariant-loop-channel : goal.invariant-loop-channel
invariant-loop-channel l = waits_for_marker l.channels l.peer ≡ waits_for_marker (drop l.channel-index l.channels) l.peer
