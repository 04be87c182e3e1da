-- the rows passed are changed, and the others are as they were
use Rattle.std.proofs.Common.{◌≡◌, ◌<◌, ◌≤◌, ℕ, false, Some, length}
use Rattle.std.specs.List.{slice_get}
use Rattle.rib_tables.specs.declared.row.Row.{Row}
use Rattle.rib_tables.specs.Places.{has}
use Rattle.rib_tables.specs.Rows.{Speaking, forgetting}
use Rattle.rib_tables.proofs.changes.forget_words.Given as goal

abbrev pub invariant-loop-prefix_at : goal.invariant-loop-prefix_at
invariant-loop-prefix_at l = record {
  len : length l.rows ≡ length l.fn.rows;
  passed : (i : ℕ) (r : Row) → i < l.prefix_at → slice_get l.fn.rows i ≡ Some r → slice_get l.rows i ≡ Some (forgetting l.peer r);
  ahead : (i : ℕ) → l.prefix_at ≤ i → slice_get l.rows i ≡ slice_get l.fn.rows i;
  dirty : (i : ℕ) → has l.dirty i ≡ false → (has l.fn.dirty i ≡ false) × ((r : Row) → i < l.prefix_at → slice_get l.fn.rows i ≡ Some r → Speaking l.peer r → ⊥);
}
