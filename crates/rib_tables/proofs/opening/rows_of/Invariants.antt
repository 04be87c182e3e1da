-- a row for each origin passed
use Rattle.std.proofs.Common.{◌≡◌, ℕ, Some, length}
use Rattle.std.specs.List.{slice_get}
use Rattle.ranked_policy.specs.declared.network.Origin.{Origin}
use Rattle.rib_tables.specs.declared.row.Row.{Row}
use Rattle.rib_tables.specs.Rows.{IsFresh}
use Rattle.rib_tables.proofs.opening.rows_of.Given as goal

abbrev pub invariant-loop-origin : goal.invariant-loop-origin
invariant-loop-origin l = record {
  long : length l.rows.items ≡ l.origin-index;
  each : (i : ℕ) (o : Origin) (r : Row) → slice_get l.origins i ≡ Some o → slice_get l.rows.items i ≡ Some r → IsFresh l.network.origins l.table l.peers o r;
}
