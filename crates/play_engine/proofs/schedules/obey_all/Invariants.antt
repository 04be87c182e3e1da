-- the orders passed are done, and the promises kept
use Rattle.std.proofs.Common.{◌≡◌, take}
use Rattle.router_model.specs.Settings.{Setting, ChoosesByRank}
use Rattle.world_core.specs.Views.{plain_world, KeepsPromises}
use Rattle.schedule_text.specs.Obeying.{LeadTo}
use Rattle.play_engine.proofs.schedules.obey_all.Given as goal

abbrev pub invariant-loop-scheduled : goal.invariant-loop-scheduled
invariant-loop-scheduled l =
    record {
      same : l.world.net ≡ l.fn.world.net;
      promises : KeepsPromises l.world;
      done : (g : Setting) → g.net ≡ l.fn.world.net → ChoosesByRank g → LeadTo g (plain_world l.fn.world) (take l.scheduled-index l.orders) (plain_world l.world);
    }
