-- of the places passed, those of which the peer was not told are in the set
use Rattle.std.proofs.Common.{◌≡◌, ◌≢◌, ◌<◌, ◌≤◌, ℕ, true, false, Some}
use Rattle.std.specs.Prelude.{◌↔◌}
use Rattle.std.specs.List.{slice_get}
use Rattle.rib_tables.specs.declared.word.Word.TheVariants.{Sequence}
use Rattle.rib_tables.specs.declared.row.Row.{Row}
use Rattle.rib_tables.specs.Places.{has}
use Rattle.rib_tables.proofs.changes.unadvertised.Given as goal

abbrev pub invariant-loop-prefix_at : goal.invariant-loop-prefix_at
invariant-loop-prefix_at l = record {
  passed : (i : ℕ) (r : Row) → i < l.prefix_at → slice_get l.rows i ≡ Some r → (has l.waiting i ≡ true ↔ (slice_get r.sent l.peer ≢ Some (Sequence r.kept)));
  ahead : (i : ℕ) → l.prefix_at ≤ i → has l.waiting i ≡ false;
}
