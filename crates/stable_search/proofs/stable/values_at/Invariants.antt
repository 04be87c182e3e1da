-- the values at the places passed
use Rattle.std.proofs.Common.{◌≡◌, ◌<◌, ℕ, [], length, get_or}
use Rattle.stable_search.specs.declared.seat.Seat.{Seat}
use Rattle.stable_search.specs.Seats.{StandsAt}
use Rattle.stable_search.proofs.stable.values_at.Given as goal

abbrev pub invariant-loop-place : goal.invariant-loop-place
invariant-loop-place l =
    (length l.values.items ≡ l.place-index)
    × ((k : ℕ) (seat : Seat) → k < l.place-index → StandsAt l.seats (get_or l.places k 0) seat → get_or l.values.items k [] ≡ seat.values.items)
