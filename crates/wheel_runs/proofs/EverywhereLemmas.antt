-- What holds of every run holds of those of worlds and of records.
use Rattle.std.specs.Prelude.{List}
use Rattle.router_model.specs.Settings.{Setting, IsSetting}
use Rattle.router_runs.specs.Runs.{RunOrder, RunState, IsRunTo}
use Rattle.worker_loop.specs.declared.chore.Chore.{Chore}
use Rattle.net_workers.specs.Runs.{RecordsKeepTheirPromises}
use Rattle.wheel_runs.specs.Changes.{RunsChangeSeldom}
use Rattle.wheel_runs.specs.Everywhere.{EachChangesSeldom, HoldsOfWorlds, HoldsOfRecords}

module _ (Holds : Setting → RunOrder → RunState → Type 0) (each : (g : Setting) → IsSetting g → (order : RunOrder) (state : RunState) → IsRunTo g order state → Holds g order state) where
  pub of_worlds : HoldsOfWorlds Holds
  of_worlds g set events w is order state run agrees = each g set order state run

  pub of_records : {G : Type 0} (given : G → List Chore) → RecordsKeepTheirPromises given → HoldsOfRecords given Holds
  of_records given keep plan turns p workers c gathered is in_turn g same set =
      let keeps = keep plan turns p workers c gathered is in_turn g same set in
      (keeps, each g set keeps.run.order keeps.run.state keeps.run.run)

pub each_run : RunsChangeSeldom → (g : Setting) → IsSetting g → (order : RunOrder) (state : RunState) → IsRunTo g order state → EachChangesSeldom g order state
each_run runs g set order state run q named = runs g set q named order state
