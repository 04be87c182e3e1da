-- so many are done, and each of them did something
use Rattle.std.proofs.Common.{◌≡◌, ◌-◌, Ok}
use Rattle.world_core.specs.Orders.{repeated, round}
use Rattle.world_core.specs.IdleTurns.{TurnsAreIdle}
use Rattle.world_core.specs.Views.{Obeys}
use Rattle.world_core.proofs.WatchedRounds.{RestsAs, SaysAs}
use Rattle.world_core.proofs.world.World.rounds.Given as goal

abbrev pub invariant-loop-passed : goal.invariant-loop-passed
invariant-loop-passed g l =
    record {
      same : l.self.net ≡ l.fn.self.net;
      done : Obeys (Ok tt) l.fn.self (repeated l.passed (round l.fn.self.net)) l.self;
      said : SaysAs g.W.Watch.says g.W.Watch.says_of_round l.fn.self l.times (g.W.Watch.said l.fn.watcher) l.self l.passed (l.times - l.passed) (g.W.Watch.said l.watcher);
      rest : RestsAs l.fn.self l.times l.self l.passed (l.times - l.passed);
      resting : TurnsAreIdle l.self l.marks.items;
    }
