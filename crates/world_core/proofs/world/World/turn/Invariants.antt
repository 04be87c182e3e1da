-- what the router tries with the peers before this one is done and written
use Rattle.std.proofs.Common.{◌≡◌, take, Ok}
use Rattle.std.specs.List.{flat_map}
use Rattle.router_model.specs.Settings.{peers}
use Rattle.world_core.specs.Orders.{with_peer}
use Rattle.world_core.specs.IdleTurns.{TurnsAreIdleBeside}
use Rattle.world_core.specs.Watching.{WatchesEvents}
use Rattle.world_core.proofs.world.World.turn.Given as goal

abbrev pub invariant-loop-peer_at : goal.invariant-loop-peer_at
invariant-loop-peer_at g l =
    record {
      net : l.self.net ≡ l.fn.self.net;
      done : WatchesEvents g.W.Watch.says g.W.Watch.may_want (Ok tt) l.fn.self (flat_map (with_peer l.fn.number) (take l.peer_at (peers l.fn.self.net l.fn.number))) (g.W.Watch.said l.fn.watcher) l.self (g.W.Watch.said l.watcher);
      resting : TurnsAreIdleBeside l.self l.fn.number l.marks.items;
    }
