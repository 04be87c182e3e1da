-- as far as they were read they are the same
use Rattle.std.proofs.Common.{◌≡◌, take, map}
use Rattle.snap_marker.specs.Parts.{seen}
use Rattle.offer_board.proofs.same.same_channels.Given as goal

abbrev pub invariant-loop-at : goal.invariant-loop-at
invariant-loop-at l = map seen (take l.at l.one) ≡ map seen (take l.at l.other)
