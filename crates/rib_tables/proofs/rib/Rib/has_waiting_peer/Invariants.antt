-- no set passed has a place of a row
use Rattle.std.proofs.Common.{◌≡◌, ◌<◌, ℕ, false, Some, length}
use Rattle.std.specs.List.{slice_get}
use Rattle.rib_tables.specs.declared.place_set.PlaceSet.{PlaceSet}
use Rattle.rib_tables.specs.Places.{has}
use Rattle.rib_tables.proofs.rib.Rib.has_waiting_peer.Given as goal

abbrev pub invariant-loop-waiting : goal.invariant-loop-waiting
invariant-loop-waiting l =
    (k : ℕ) (w : PlaceSet) → k < l.waiting-index → slice_get l.waiting-items k ≡ Some w → (i : ℕ) → i < length l.self-inside.rows.items → has w i ≡ false
