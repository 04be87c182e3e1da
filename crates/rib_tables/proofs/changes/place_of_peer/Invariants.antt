-- none passed is the peer
use Rattle.std.proofs.Common.{◌≡◌, ◌<◌, ℕ, Some}
use Rattle.std.specs.List.{slice_get}
use Rattle.rib_tables.specs.declared.row.Peer.{Peer}
use Rattle.rib_tables.proofs.changes.place_of_peer.Given as goal

abbrev pub invariant-loop-peer_at : goal.invariant-loop-peer_at
invariant-loop-peer_at l = (k : ℕ) (p : Peer) → k < l.peer_at → slice_get l.peers k ≡ Some p → p.asn ≡ l.asn → ⊥
