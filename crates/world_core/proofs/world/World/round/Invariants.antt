-- the turns of the routers before this one are done and written
use Rattle.std.proofs.Common.{◌≡◌, take, Ok}
use Rattle.std.specs.List.{flat_map}
use Rattle.world_core.specs.Orders.{turn}
use Rattle.world_core.specs.IdleTurns.{TurnsAreIdle}
use Rattle.world_core.specs.Watching.{WatchesEvents}
use Rattle.world_core.proofs.world.World.round.Given as goal

abbrev pub invariant-loop-router_at : goal.invariant-loop-router_at
invariant-loop-router_at g l =
    record {
      net : l.self.net ≡ l.fn.self.net;
      done : WatchesEvents g.W.Watch.says g.W.Watch.may_want (Ok tt) l.fn.self (flat_map (λ r. turn l.fn.self.net r.asn) (take l.router_at l.router-items)) (g.W.Watch.said l.fn.watcher) l.self (g.W.Watch.said l.watcher);
      resting : TurnsAreIdle l.self l.marks.items;
    }
