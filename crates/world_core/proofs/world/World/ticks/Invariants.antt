-- so many are done
use Rattle.std.proofs.Common.{◌≡◌}
use Rattle.std.specs.Prelude.{Ok}
use Rattle.world_core.specs.Orders.{second, repeated}
use Rattle.world_core.specs.Watching.{WatchesEvents}
use Rattle.world_core.proofs.world.World.ticks.Given as goal

abbrev pub invariant-loop : goal.invariant-loop
invariant-loop g l =
    record {
      net : l.self.net ≡ l.fn.self.net;
      done : WatchesEvents g.W.Watch.says g.W.Watch.may_want (Ok tt) l.fn.self (repeated l.counter (second l.fn.self.net)) (g.W.Watch.said l.fn.watcher) l.self (g.W.Watch.said l.watcher);
    }
