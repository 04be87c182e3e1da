-- the places passed where the peer said a path are in the set
use Rattle.std.proofs.Common.{◌≡◌, ◌<◌, ℕ, false, Some}
use Rattle.std.specs.List.{slice_get}
use Rattle.rib_tables.specs.declared.row.Row.{Row}
use Rattle.rib_tables.specs.Places.{has}
use Rattle.rib_tables.specs.Rows.{Speaking}
use Rattle.rib_tables.proofs.changes.mark_words.Given as goal

abbrev pub invariant-loop-prefix_at : goal.invariant-loop-prefix_at
invariant-loop-prefix_at l = (i : ℕ) → has l.dirty i ≡ false → (has l.fn.dirty i ≡ false) × ((r : Row) → i < l.prefix_at → slice_get l.rows i ≡ Some r → Speaking l.peer r → ⊥)
