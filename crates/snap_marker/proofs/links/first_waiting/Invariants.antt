use Rattle.std.proofs.Common.{◌≡◌, drop}
use Rattle.std.specs.List.{find}
use Rattle.snap_marker.specs.Parts.{waits_for_marker, peers_of}
use Rattle.snap_marker.proofs.links.first_waiting.Given as goal

-- what is left decides
abbrev pub invariant-loop-channel : goal.invariant-loop-channel
invariant-loop-channel l = find (waits_for_marker l.recorded) (peers_of l.channels) ≡ find (waits_for_marker l.recorded) (peers_of (drop l.channel-index l.channels))
