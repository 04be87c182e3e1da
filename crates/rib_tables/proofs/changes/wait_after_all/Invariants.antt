-- the sets of the peers passed are those of the rows
use Rattle.std.proofs.Common.{◌≡◌, ◌<◌, ℕ, Some, length}
use Rattle.std.specs.List.{slice_get}
use Rattle.rib_tables.specs.declared.place_set.PlaceSet.{PlaceSet}
use Rattle.rib_tables.specs.declared.row.Peer.{Peer}
use Rattle.rib_tables.specs.Rows.{IsWaiting}
use Rattle.rib_tables.proofs.changes.wait_after_all.Given as goal

abbrev pub invariant-loop-peer_at : goal.invariant-loop-peer_at
invariant-loop-peer_at l = record {
  len : length l.waits.items ≡ length l.peers;
  passed : (k : ℕ) (p : Peer) (waiting : PlaceSet) → k < l.peer_at → slice_get l.peers k ≡ Some p → slice_get l.waits.items k ≡ Some waiting → IsWaiting k p l.rows waiting;
}
