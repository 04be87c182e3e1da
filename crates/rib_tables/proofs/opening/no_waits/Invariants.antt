-- so many sets, all of them empty
use Rattle.std.proofs.Common.{◌≡◌, ℕ, false, length}
use Rattle.std.specs.List.{All}
use Rattle.rib_tables.specs.Places.{has}
use Rattle.rib_tables.proofs.opening.no_waits.Given as goal

abbrev pub invariant-loop : goal.invariant-loop
invariant-loop l = record {
  len : length l.waits.items ≡ l.counter;
  none : All (λ waiting. (place : ℕ) → has waiting place ≡ false) l.waits.items;
}
