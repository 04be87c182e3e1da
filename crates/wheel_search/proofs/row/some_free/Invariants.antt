-- none of those passed permits every route
use Rattle.std.proofs.Common.{take}
use Rattle.std.specs.List.{All}
use Rattle.wheel_search.specs.Rows.{IsFreeKind}
use Rattle.wheel_search.proofs.row.some_free.Given as goal

abbrev pub invariant-loop-seat : goal.invariant-loop-seat
invariant-loop-seat l = All (λ seat. IsFreeKind seat.kind → ⊥) (take l.seat-index l.seats)
