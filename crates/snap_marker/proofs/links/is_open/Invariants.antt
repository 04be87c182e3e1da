use Rattle.std.proofs.Common.{◌≡◌, drop}
use Rattle.std.specs.List.{list_any}
use Rattle.snap_marker.specs.Parts.{waits_for_marker, peers_of}
use Rattle.snap_marker.proofs.links.is_open.Given as goal

-- what is left decides
abbrev pub invariant-loop-channel : goal.invariant-loop-channel
invariant-loop-channel l = list_any (waits_for_marker l.channels) (peers_of l.channels) ≡ list_any (waits_for_marker l.channels) (peers_of (drop l.channel-index l.channels))
