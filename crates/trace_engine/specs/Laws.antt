-- Laws of traces.
use Rattle.std.specs.Prelude.{◌≡◌, ℕ, ◌≤◌, Bool, List, length, map}
use Rattle.ranked_policy.specs.Plans.{Plan, IsNetwork}
use Rattle.router_model.specs.Settings.{Setting}
use Rattle.world_core.specs.declared.schedule.Event.{Event}
use Rattle.world_core.specs.declared.schedule.Order.TheVariants as order
use Rattle.world_core.specs.World.{World, new_world}
use Rattle.net_text.specs.Lexing.{Text, lines_of}
use Rattle.schedule_text.specs.declared.schedule.ScheduledOrder.{ScheduledOrder}
use Rattle.schedule_text.specs.Schedules.{SpellsSchedule}
use Rattle.schedule_text.specs.Obeying.{LeadTo}
use Rattle.play_engine.specs.Playing.{Plays}
use Rattle.text_engines.specs.declared.status.TheConstants.{DONE}
use Rattle.text_engines.specs.declared.transfer.TheConstants.{INPUT_LIMIT}
use Rattle.text_engines.specs.Decoding.{Output, output}
use Rattle.trace_engine.specs.Tracing.{OrdersText}
use Rattle.trace_engine.specs.Tracings.{Traces}

-- no line has a fault, and those that are no comments order these events, one after the other
pub record SpellsEvents (net : Plan) (before : ℕ) (lines : List Text) (events : List Event) : Type 0 where
  pub orders : List ScheduledOrder
  pub spelled : SpellsSchedule net before lines orders
  pub are : map (λ o. o.order) orders ≡ map (λ e. order.One e) events

-- the text printed for the orders of a schedule spells the events of the world that they lead to
abbrev pub TracesSpellTheirRuns : Type 0
TracesSpellTheirRuns =
    (g : Setting) → IsNetwork g.net → (before : ℕ) (lines : List Text) (orders : List ScheduledOrder) → SpellsSchedule g.net before lines orders
    → (w : World) → LeadTo g (new_world g) orders w → (shows : Bool) (text : List ℕ) → OrdersText shows g (new_world g) orders text → (at : ℕ) → SpellsEvents g.net at (lines_of text) w.run

-- `play` prints for a trace what it prints for the input
abbrev pub TracesPlayBack : Type 0
TracesPlayBack = (shows : Bool) (input text : List ℕ) → Traces shows input (output text DONE) → length text ≤ INPUT_LIMIT → (out : Output) → Plays text out → Plays input out
