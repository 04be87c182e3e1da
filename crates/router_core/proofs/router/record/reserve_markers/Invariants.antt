use Rattle.router_core.proofs.Marking.{Passed, RoomBelow}
use Rattle.router_core.proofs.router.record.reserve_markers.Given as goal

-- the peers passed have room, and no side changed
abbrev pub invariant-loop-peer : goal.invariant-loop-peer
invariant-loop-peer l = record {
  same : Passed (λ s. s) l.peer-index l.fn.peers.items l.peer-items;
  room : RoomBelow l.peer-index l.peer-items;
}
