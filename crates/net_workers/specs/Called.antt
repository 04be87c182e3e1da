-- The steps of routers at the word of their chores.
use Rattle.std.specs.Prelude.{ℕ, List}
use Rattle.run_model.specs.Network.{Steps}
use Rattle.outbox.specs.declared.item.What.{What}
use Rattle.snap_marker.specs.Recordings.{MadeOffer}
use Rattle.router_model.specs.Settings.{Setting}
use Rattle.router_model.specs.Step.{Own, RouterEvent}
use Rattle.router_runs.specs.Runs.{Logged, LoggedStep}
use Rattle.world_core.specs.Replays.{IsCalled}
use Rattle.worker_loop.specs.declared.chore.Chore.{Chore}
use Rattle.worker_loop.specs.Laws.{IsOrdered}

-- a step of router u is what its call answers, and is a command only if one of these chores is that command
pub record CalledStep (g : Setting) (chores : List Chore) (u : ℕ) (old : Logged) (e : RouterEvent) (new : Logged) : Type 0 where
  pub step : LoggedStep g u old e new
  pub called : IsCalled g u old.router e
  pub ordered : IsOrdered chores e

-- a setting, and the chores of each router
pub record Orders : Type 0 where
  pub setting : Setting
  pub chores : ℕ → List Chore

abbrev pub called_steps : Orders → Steps Logged Own What MadeOffer
called_steps o = λ u old e new. CalledStep o.setting (o.chores u) u old e new
