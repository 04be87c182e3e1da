-- The text printed for a network and a schedule; `shows` is whether the octets that are sent are shown.
use Rattle.std.specs.Prelude.{◌≡◌, ◌≢◌, ℕ, Bool, List, codes, ◌⊎◌}
use Rattle.ranked_policy.specs.Plans.{Plan}
use Rattle.net_text.specs.declared.code.Code.{Code}
use Rattle.net_text.specs.declared.code.Code.TheVariants as kinds
use Rattle.net_text.specs.Lexing.{Text, lines_of, before_section}
use Rattle.net_text.specs.Printing.{code_text}
use Rattle.schedule_text.specs.declared.schedule.ScheduledOrder.{ScheduledOrder}
use Rattle.schedule_text.specs.Schedules.{SpellsSchedule, RefusesSchedule}
use Rattle.schedule_text.specs.Events.{head_of_schedule}
use Rattle.text_engines.specs.Decoding.{Output, refused}
use Rattle.text_engines.specs.Inputs.{NetworkGives, InputGives, Prints}
use Rattle.trace_engine.specs.Tracing.{OrdersTrace}

-- the text for the lines of a schedule behind a network of these lines, so many lines standing before them
abbrev pub ScheduleTraces : Bool → List Text → Plan → ℕ → List Text → Output → Type 0
ScheduleTraces shows front net before lines out =
    ((at : ℕ) × (code : Code) × (code ≢ kinds.Memory) × RefusesSchedule net before lines at code × (out ≡ refused at (code_text code)))
    ⊎ ((orders : List ScheduledOrder) × SpellsSchedule net before lines orders × OrdersTrace shows net (head_of_schedule front) orders out)

-- the text for the lines of a network, and those behind it
abbrev pub LinesTrace : Bool → List Text → ℕ → List Text → Output → Type 0
LinesTrace shows front before behind out = NetworkGives (ScheduleTraces shows front) front before behind out

-- the lines of the network that an input begins with
abbrev pub network_lines : List ℕ → List Text
network_lines input = before_section (codes "schedule") (lines_of input)

-- the text for an input, which may be too long
abbrev pub InputTraces : Bool → List ℕ → Output → Type 0
InputTraces shows input out = InputGives (ScheduleTraces shows (network_lines input)) (codes "schedule") input out

-- the text that `trace` prints for an input of a network and a schedule: this one, or that memory ran out
abbrev pub Traces : Bool → List ℕ → Output → Type 0
Traces shows input out = Prints (ScheduleTraces shows (network_lines input)) (codes "schedule") input out
