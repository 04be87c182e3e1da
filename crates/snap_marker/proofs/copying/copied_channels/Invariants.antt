use Rattle.std.proofs.Common.{◌≡◌, take, map}
use Rattle.snap_marker.specs.Parts.{seen}
use Rattle.snap_marker.proofs.copying.copied_channels.Given as goal

-- what is passed is copied
abbrev pub invariant-loop-channel : goal.invariant-loop-channel
invariant-loop-channel l = map seen l.copy.items ≡ map seen (take l.channel-index l.channels)
