-- the peers passed wait as the row now says, and the other places are as they were
use Rattle.std.proofs.Common.{◌≡◌, ◌≢◌, ◌<◌, ℕ, true, Some, length}
use Rattle.std.specs.Prelude.{◌↔◌}
use Rattle.std.specs.List.{slice_get}
use Rattle.rib_tables.specs.declared.word.Word.TheVariants.{Sequence}
use Rattle.rib_tables.specs.declared.place_set.PlaceSet.{PlaceSet}
use Rattle.rib_tables.specs.declared.row.Peer.{Peer}
use Rattle.rib_tables.specs.Places.{has}
use Rattle.rib_tables.proofs.changes.wait_anew.Given as goal

abbrev pub invariant-loop-k : goal.invariant-loop-k
invariant-loop-k l = record {
  len : length l.waits ≡ length l.fn.waits;
  here : (k : ℕ) (p : Peer) (w : PlaceSet) → k < l.k → slice_get l.peers k ≡ Some p → slice_get l.waits k ≡ Some w → (has w l.prefix_at ≡ true ↔ ((p.up ≡ true) × (slice_get l.row.sent k ≢ Some (Sequence l.row.kept))));
  others : (k : ℕ) (w : PlaceSet) → slice_get l.waits k ≡ Some w → (v : PlaceSet) × (slice_get l.fn.waits k ≡ Some v) × ((i : ℕ) → i ≢ l.prefix_at → has w i ≡ has v i);
}
