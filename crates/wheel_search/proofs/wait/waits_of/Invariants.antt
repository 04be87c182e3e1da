-- what the paths passed wait for
use Rattle.std.proofs.Common.{◌≡◌, ◌<◌, [], ℕ, length, get_or}
use Rattle.wheel_search.specs.declared.wait.Wait.TheVariants.{Never}
use Rattle.wheel_search.specs.Rows.{IsWait, paths_of}
use Rattle.wheel_search.proofs.wait.waits_of.Given as goal

abbrev pub invariant-loop-path : goal.invariant-loop-path
invariant-loop-path l = record {
  size : length l.waits.items ≡ l.path-index;
  each : (k : ℕ) → k < length l.waits.items → IsWait l.instance l.rows l.row (get_or (paths_of l.row) k []) (get_or l.waits.items k Never);
}
