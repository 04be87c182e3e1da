use Rattle.std.proofs.Common.{◌≤◌, ◌-◌, ◌≡◌, length, take}
use Rattle.std.specs.Io.KnownBytes.{Appends}
use Rattle.text_engines.proofs.transfer.write_out.Given as goal

abbrev pub invariant-pieces : goal.invariant-pieces
invariant-pieces g l = (l.at ≤ length l.text) × Appends (g.T.Sink.contents l.fn.sink) (g.T.Sink.contents l.sink) (take l.at l.text) × (g.T.Sink.failed l.sink ≡ g.T.Sink.failed l.fn.sink)

abbrev pub decreases-pieces : goal.decreases-pieces
decreases-pieces g l = length l.text - l.at
