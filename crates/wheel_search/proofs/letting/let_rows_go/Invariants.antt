-- all paths of the rows in front went, and no row is busy
use Rattle.std.proofs.Common.{◌≡◌, ◌<◌, ℕ, [], false, length}
use Rattle.std.specs.Prelude.{slice_index, slice_index_or}
use Rattle.wheel_search.specs.Waits.{count_of}
use Rattle.wheel_search.specs.Letting.{AreGone}
use Rattle.wheel_search.proofs.letting.let_rows_go.Given as goal

abbrev pub invariant-loop-row : goal.invariant-loop-row
invariant-loop-row l = record {
  gone : AreGone l.waits l.letting.gone.items;
  size : length l.letting.busy.items ≡ length l.waits;
  shut : (row : ℕ) → slice_index_or l.letting.busy.items row false ≡ false;
  trail : l.letting.trail.items ≡ [];
  all : (row : ℕ) → row < l.row → slice_index l.letting.gone.items row ≡ count_of l.waits row;
}
