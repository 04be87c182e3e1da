use Rattle.std.proofs.Common.{◌≡◌}
use Rattle.snap_marker.specs.Parts.{snapshots_of}
use Rattle.snap_marker.specs.Recordings.{closed}
use Rattle.router_model.specs.Sides.{NoMessage, carried}
use Rattle.router_core.specs.ToAll.{draft_by, IsRest}
use Rattle.router_core.proofs.Marking.{Passed}
use Rattle.router_core.proofs.Moving.{left_below}
use Rattle.router_core.proofs.router.Router.move_all.Given as goal

-- the peers passed are moved, and the others as they were
abbrev pub invariant-loop-peer_at : goal.invariant-loop-peer_at
invariant-loop-peer_at l =
    let D = draft_by l.event l.fn.self.own_open in
    record {
      peers : Passed (λ s. carried NoMessage s (D s)) l.peer_at l.fn.self.peers l.self.peers;
      marks : snapshots_of l.self.marks ≡ closed (left_below D l.peer_at l.fn.self.peers) (snapshots_of l.fn.self.marks);
      rest : IsRest l.fn.self l.self;
    }
