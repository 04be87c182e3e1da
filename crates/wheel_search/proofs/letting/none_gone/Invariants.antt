-- no path of these rows went, and none is being let go
use Rattle.std.proofs.Common.{◌≡◌, ℕ, false, length}
use Rattle.std.specs.Prelude.{slice_index, slice_index_or}
use Rattle.wheel_search.proofs.letting.none_gone.Given as goal

abbrev pub invariant-loop-row : goal.invariant-loop-row
invariant-loop-row l = record {
  gone : length l.gone.items ≡ l._row;
  busy : length l.busy.items ≡ l._row;
  none : (row : ℕ) → slice_index l.gone.items row ≡ 0;
  shut : (row : ℕ) → slice_index_or l.busy.items row false ≡ false;
}
