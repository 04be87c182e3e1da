use Rattle.std.proofs.Common.{◌≡◌, drop}
use Rattle.snap_marker.specs.Parts.{epoch_in}
use Rattle.snap_marker.proofs.links.epoch_in.Given as goal

-- what is left decides
abbrev pub invariant-loop-channel : goal.invariant-loop-channel
invariant-loop-channel l = epoch_in l.channels l.peer ≡ epoch_in (drop l.channel-index l.channels) l.peer
