-- the sets of the seats passed
use Rattle.std.proofs.Common.{◌≡◌, ◌<◌, ℕ, length, get_or}
use Rattle.std.specs.Prelude.{◌↔◌}
use Rattle.stable_search.specs.declared.seat.Seat.{Seat}
use Rattle.stable_search.specs.Picks.{Has}
use Rattle.stable_search.specs.Seats.{StandsAt}
use Rattle.stable_search.proofs.stable.all_values.Given as goal

abbrev pub invariant-loop-seat : goal.invariant-loop-seat
invariant-loop-seat l =
    (length l.sets.items ≡ l.seat-index)
    × ((place value : ℕ) (seat : Seat) → place < l.seat-index → StandsAt l.seats place seat → (Has (get_or l.sets.items place 0) value ↔ value < length seat.values.items))
