-- the paths of the routers passed go no further
use Rattle.wheel_search.proofs.RowLemmas.{AreWithinTo}
use Rattle.wheel_search.proofs.row.longest_rest.Given as goal

abbrev pub invariant-loop-seat : goal.invariant-loop-seat
invariant-loop-seat l = AreWithinTo l.instance l.longest l.seats l.seat-index
