-- what the paths of the rows passed wait for
use Rattle.std.proofs.Common.{◌≡◌, ◌<◌, [], ℕ, length, get_or}
use Rattle.wheel_search.specs.declared.row.Row.{Row}
use Rattle.wheel_search.specs.Rows.{IsEachWait}
use Rattle.wheel_search.proofs.wait.all_waits.Given as goal

abbrev pub invariant-loop-row : goal.invariant-loop-row
invariant-loop-row l = record {
  size : length l.waits.items ≡ l.row-index;
  each : (k : ℕ) (d : Row) → k < length l.waits.items → IsEachWait l.instance l.rows (get_or l.rows k d) (get_or l.waits.items k []);
}
