use Rattle.std.proofs.Common.{◌≡◌, drop}
use Rattle.snap_marker.specs.Parts.{is_heard_in}
use Rattle.snap_marker.proofs.links.is_heard.Given as goal

-- what is left decides
abbrev pub invariant-loop-channel : goal.invariant-loop-channel
invariant-loop-channel l = is_heard_in l.channels l.peer ≡ is_heard_in (drop l.channel-index l.channels) l.peer
