-- nothing was put, and what is left decides
use Rattle.std.proofs.Common.{◌≡◌, drop}
use Rattle.snap_marker.specs.Parts.{channel_in}
use Rattle.snap_collector.proofs.flights.put_channel.Given as goal

abbrev pub invariant-loop-channel : goal.invariant-loop-channel
invariant-loop-channel l = (l.flights.items ≡ l.fn.flights.items) × (channel_in (drop l.channel-index l.channels) l.peer ≡ channel_in l.channels l.peer)
