use Rattle.router_core.specs.Recorded.{marked_if_up}
use Rattle.router_core.proofs.Marking.{Passed, RoomFrom}
use Rattle.router_core.proofs.router.record.mark_all.Given as goal

-- the peers passed are marked, and the others have room for it
abbrev pub invariant-loop-peer : goal.invariant-loop-peer
invariant-loop-peer l = record {
  marked : Passed (marked_if_up l.number) l.peer-index l.fn.peers.items l.peer-items;
  room : RoomFrom l.peer-index l.peer-items;
}
