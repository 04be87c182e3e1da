-- the rows passed are cleared and in the set, and the others are as they were
use Rattle.std.proofs.Common.{◌≡◌, ◌<◌, ◌≤◌, ℕ, true, Some, length}
use Rattle.std.specs.List.{slice_get}
use Rattle.rib_tables.specs.declared.row.Row.{Row}
use Rattle.rib_tables.specs.Places.{has}
use Rattle.rib_tables.specs.Rows.{clearing}
use Rattle.rib_tables.proofs.changes.clear_all.Given as goal

abbrev pub invariant-loop-prefix_at : goal.invariant-loop-prefix_at
invariant-loop-prefix_at l = record {
  len : length l.rows.items ≡ length l.fn.rows.items;
  passed : (i : ℕ) (r : Row) → i < l.prefix_at → slice_get l.fn.rows.items i ≡ Some r → slice_get l.rows.items i ≡ Some (clearing r);
  ahead : (i : ℕ) → l.prefix_at ≤ i → slice_get l.rows.items i ≡ slice_get l.fn.rows.items i;
  dirty : (i : ℕ) → i < l.prefix_at → has l.dirty i ≡ true;
}
