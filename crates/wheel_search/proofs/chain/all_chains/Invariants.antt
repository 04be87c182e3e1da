-- the rows passed have their chains
use Rattle.std.proofs.Common.{◌≡◌, ◌<◌, [], ℕ, length, get_or}
use Rattle.wheel_search.specs.declared.row.Row.{Row}
use Rattle.wheel_search.specs.Chains.{IsChain}
use Rattle.wheel_search.specs.Rows.{paths_of}
use Rattle.wheel_search.proofs.chain.all_chains.Given as goal

abbrev pub invariant-loop-row : goal.invariant-loop-row
invariant-loop-row l = record {
  size : length l.chains.items ≡ l.row-index;
  each : (k : ℕ) (d : Row) → k < length l.chains.items → IsChain (paths_of (get_or l.rows k d)) (get_or l.chains.items k []);
}
