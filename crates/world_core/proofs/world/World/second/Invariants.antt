-- the ticks of the routers before this one are done
use Rattle.std.proofs.Common.{◌≡◌, ◌∷◌, [], take}
use Rattle.std.specs.Prelude.{Ok}
use Rattle.std.specs.List.{flat_map}
use Rattle.world_core.specs.declared.schedule.Event.TheVariants as schedule
use Rattle.world_core.specs.Watching.{WatchesEvents}
use Rattle.world_core.proofs.world.World.second.Given as goal

abbrev pub invariant-loop-router_at : goal.invariant-loop-router_at
invariant-loop-router_at g l =
    record {
      net : l.self.net ≡ l.fn.self.net;
      done : WatchesEvents g.W.Watch.says g.W.Watch.may_want (Ok tt) l.fn.self (flat_map (λ r. schedule.Tick r.asn ∷ []) (take l.router_at l.router-items)) (g.W.Watch.said l.fn.watcher) l.self (g.W.Watch.said l.watcher);
    }
