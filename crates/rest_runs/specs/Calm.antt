-- Events of a network that is left alone: no command is given and no second passes.
use Rattle.std.specs.Prelude.{[], ◌∷◌}
use Rattle.run_model.specs.Network.{alone, puts, takes, offers}
use Rattle.router_model.specs.Step.{Obeys, Ticks, Handles, Decides, Advertises, RouterEvent}
use Rattle.router_runs.specs.Runs.{RunOrder}

-- an event that is neither a command nor a second that passes
abbrev pub IsCalm : RouterEvent → Type 0
IsCalm (alone (Obeys c)) = ⊥
IsCalm (alone Ticks) = ⊥
IsCalm (alone (Handles v)) = Unit {0}
IsCalm (alone Decides) = Unit {0}
IsCalm (alone (Advertises v)) = Unit {0}
IsCalm (puts v i) = Unit {0}
IsCalm (takes v i) = Unit {0}
IsCalm (offers made) = Unit {0}

abbrev pub AreCalm : RunOrder → Type 0
AreCalm [] = Unit {0}
AreCalm (d ∷ ds) = IsCalm d.event × AreCalm ds
