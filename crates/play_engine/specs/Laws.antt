-- Laws of the definitions of the engine.
use Rattle.std.specs.Prelude.{ℕ, ◌≡◌, codes}
use Rattle.router_model.specs.Settings.{Setting, IsSetting}
use Rattle.world_core.specs.World.{World}
use Rattle.text_engines.specs.Decoding.{Output}
use Rattle.text_engines.specs.Laws.{InputsGiveOne}
use Rattle.why_engine.specs.Explaining.{Explains}
use Rattle.play_engine.specs.Playing.{IsReport, ScheduleGives}
use Rattle.play_engine.specs.Cutting.{IsCutReport}

-- for a world there is one text
abbrev pub WorldsGiveOne : (Setting → World → Output → Type 0) → Type 0
WorldsGiveOne Gives = (g : Setting) → IsSetting g → (w : World) (one other : Output) → Gives g w one → Gives g w other → one ≡ other

-- for an input there is one text of `play`, and of `cut` and `why` one for each number, want of memory aside
abbrev pub PlaysToOne : Type 0
PlaysToOne = InputsGiveOne (ScheduleGives IsReport) (codes "schedule")

abbrev pub CutsToOne : Type 0
CutsToOne = (s : ℕ) → InputsGiveOne (ScheduleGives (IsCutReport s)) (codes "schedule")

abbrev pub WhysToOne : Type 0
WhysToOne = (u : ℕ) → InputsGiveOne (ScheduleGives (Explains u)) (codes "schedule")
