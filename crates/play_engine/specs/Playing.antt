-- The text printed for a network and a schedule.
use Rattle.std.specs.Prelude.{◌≡◌, ◌≢◌, ℕ, true, List, ◌++◌, Some, Result, codes, MatchResult, ◌⊎◌}
use Rattle.ranked_policy.specs.Plans.{Plan}
use Rattle.run_model.specs.Network.{Run}
use Rattle.run_model.specs.Offers.{HasOutcome, Settled}
use Rattle.snap_marker.specs.Recordings.{RouterPart}
use Rattle.router_model.specs.Settings.{Setting, IsSetting, ChoosesByRank, is_router}
use Rattle.router_runs.specs.Model.{network_of}
use Rattle.router_runs.specs.Runs.{RunOrder, RunState, IsRunTo, logged_steps}
use Rattle.router_runs.specs.Snapshots.{AreStable, IsBelievable}
use Rattle.world_core.specs.declared.schedule.StepFault.TheVariants.{Memory}
use Rattle.world_core.specs.World.{World, AgreesWith, new_world}
use Rattle.world_core.specs.Keeping.{KeepsItsPromises}
use Rattle.world_core.specs.Views.{WorldView, plain_world}
use Rattle.world_core.specs.Verdicts.{members_of}
use Rattle.net_text.specs.declared.code.Code.{Code}
use Rattle.net_text.specs.declared.code.Code.TheVariants as kinds
use Rattle.net_text.specs.Lexing.{Text}
use Rattle.net_text.specs.Printing.{code_text}
use Rattle.schedule_text.specs.declared.schedule.ScheduledOrder.{ScheduledOrder}
use Rattle.schedule_text.specs.Schedules.{SpellsSchedule, RefusesSchedule}
use Rattle.schedule_text.specs.Reports.{stop_line}
use Rattle.schedule_text.specs.declared.report.RefusedOrder.{RefusedOrder}
use Rattle.text_engines.specs.declared.status.TheConstants.{DONE, REFUSED}
use Rattle.text_engines.specs.Decoding.{Output, output, refused}
use Rattle.schedule_text.specs.Routes.{AreDecided, deciding, outcome, recorded}
use Rattle.play_engine.specs.Reporting.{snapshots_text, now_text}
use Rattle.text_engines.specs.Inputs.{Prints}
use Rattle.schedule_text.specs.Obeying.{LeadTo, IsFirstRefused}

-- ---- the text printed of a world

-- the routes that are printed of a settled snapshot can be believed. Every router recorded them; they are a stable path
-- assignment for each prefix; they are what a consistent cut leaves of every run that the world stands at the end of,
-- and stay while that run is quiet
pub record CanBeBelieved (g : Setting) (w : World) (s : ℕ) : Type 0 where
  pub parts : ℕ → RouterPart
  pub printed : (u : ℕ) → is_router g u ≡ true → recorded (deciding g.net w.made s) u ≡ Some (parts u)
  pub stable : AreStable g parts
  pub believed : (before later : RunOrder) (at last : RunState) → IsRunTo g before at → Run (logged_steps g) at later last → AgreesWith g w last
      → IsBelievable g before later at last s parts

-- the report of a world: the lines of the decided snapshots, by rising number, then the routes now. The line of a
-- snapshot says how it comes out in every run that the world stands at the end of
pub record IsReport (g : Setting) (w : World) (out : Output) : Type 0 where
  pub decided : List ℕ
  pub are_decided : AreDecided (members_of g.net) w.made decided
  pub outcomes : (state : RunState) → AgreesWith g w state → (s : ℕ) → HasOutcome (network_of g) s state.offered (outcome g.net w.made s)
  pub settled : IsSetting g → (s : ℕ) → outcome g.net w.made s ≡ Settled → CanBeBelieved g w s
  pub printed : out ≡ output (snapshots_text g.net (members_of g.net) w.made decided ++ now_text g.net w) DONE

-- the output that is shown of the code's world, in every setting of its network; `Gives` says what is shown of a world
abbrev pub Shows : (Setting → World → Output → Type 0) → WorldView → Output → Type 0
Shows Gives x out = (g : Setting) → g.net ≡ x.net → Gives g (plain_world x) out

-- ---- the world that orders lead to

-- what a call that obeys orders has to answer and to leave, in every setting of the network that chooses by rank
abbrev pub Obeyed : Result (Unit {0}) RefusedOrder → WorldView → List ScheduledOrder → WorldView → Type 0
Obeyed r x orders y =
    (g : Setting) → g.net ≡ x.net → ChoosesByRank g
    → MatchResult r (λ _. LeadTo g (plain_world x) orders (plain_world y)) (λ stop. IsFirstRefused g (plain_world x) orders stop)

-- ---- the text printed; `Gives` says what is shown of the world that the orders lead to

abbrev pub stopped : RefusedOrder → Output
stopped stop = output (stop_line stop.line stop.why) REFUSED

-- the text for the orders of a schedule, in every setting of the network that chooses by rank: what is shown of the
-- world that they lead to, in which UPDATEs passed in order; or the first order that is refused
abbrev pub OrdersGive : (Setting → World → Output → Type 0) → Plan → List ScheduledOrder → Output → Type 0
OrdersGive Gives net orders out =
    (g : Setting) → g.net ≡ net → ChoosesByRank g
    → ((w : World) × LeadTo g (new_world g) orders w × (IsSetting g → KeepsItsPromises g w) × Gives g w out)
    ⊎ ((stop : RefusedOrder) × (stop.why ≢ Memory) × IsFirstRefused g (new_world g) orders stop × (out ≡ stopped stop))

-- the text for the lines of a schedule, so many lines standing before them
abbrev pub ScheduleGives : (Setting → World → Output → Type 0) → Plan → ℕ → List Text → Output → Type 0
ScheduleGives Gives net before lines out =
    ((at : ℕ) × (code : Code) × (code ≢ kinds.Memory) × RefusesSchedule net before lines at code × (out ≡ refused at (code_text code)))
    ⊎ ((orders : List ScheduledOrder) × SpellsSchedule net before lines orders × OrdersGive Gives net orders out)

-- the text that `play` prints for an input of a network and a schedule: this one, with a report of the world, or that
-- memory ran out
abbrev pub Plays : List ℕ → Output → Type 0
Plays input out = Prints (ScheduleGives IsReport) (codes "schedule") input out
