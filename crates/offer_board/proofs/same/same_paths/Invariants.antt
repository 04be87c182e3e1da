-- as far as they were read they are the same
use Rattle.std.proofs.Common.{◌≡◌, take}
use Rattle.offer_board.proofs.same.same_paths.Given as goal

abbrev pub invariant-loop-at : goal.invariant-loop-at
invariant-loop-at l = take l.at l.one ≡ take l.at l.other
