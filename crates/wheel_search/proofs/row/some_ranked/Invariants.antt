-- no rule lists the paths of those passed
use Rattle.std.proofs.Common.{take}
use Rattle.std.specs.List.{All}
use Rattle.wheel_search.specs.Rows.{IsRanked}
use Rattle.wheel_search.proofs.row.some_ranked.Given as goal

abbrev pub invariant-loop-seat : goal.invariant-loop-seat
invariant-loop-seat l = All (λ seat. IsRanked seat.kind → ⊥) (take l.seat-index l.seats)
