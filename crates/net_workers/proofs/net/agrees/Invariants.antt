-- the workers that were read agree with the board
use Rattle.std.proofs.Common.{take}
use Rattle.std.specs.List.{AllByRecursion}
use Rattle.net_workers.specs.Ran.{OffersOf}
use Rattle.net_workers.proofs.net.agrees.Given as goal

abbrev pub invariant-loop-ended : goal.invariant-loop-ended
invariant-loop-ended g l = AllByRecursion (OffersOf l.board.offers) (take l.ended-index l.workers)
