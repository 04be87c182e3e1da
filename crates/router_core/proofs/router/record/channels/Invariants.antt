use Rattle.std.proofs.Common.{◌≡◌, take, map}
use Rattle.snap_marker.specs.Parts.{seen}
use Rattle.router_core.specs.Recorded.{channels_of}
use Rattle.router_core.proofs.router.record.channels.Given as goal

-- the channels so far
abbrev pub invariant-loop-peer : goal.invariant-loop-peer
invariant-loop-peer l = map seen l.made.items ≡ channels_of l.first (take l.peer-index l.peers)
