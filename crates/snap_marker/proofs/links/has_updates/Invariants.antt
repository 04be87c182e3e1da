use Rattle.std.proofs.Common.{◌≡◌, drop}
use Rattle.snap_marker.specs.Parts.{channel_in}
use Rattle.snap_marker.proofs.links.has_updates.Given as goal

-- what is left decides
abbrev pub invariant-loop-channel : goal.invariant-loop-channel
invariant-loop-channel l = channel_in l.channels l.peer ≡ channel_in (drop l.channel-index l.channels) l.peer
