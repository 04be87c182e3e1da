-- The text printed of what the threads of a network did.
use Rattle.std.specs.Prelude.{◌≡◌, ℕ, List, ◌++◌, map}
use Rattle.std.specs.List.{flat_map}
use Rattle.ranked_policy.specs.declared.network.Origin.{Origin}
use Rattle.ranked_policy.specs.Plans.{Plan}
use Rattle.snap_collector.specs.Collector.{CollectorView, AreDecided}
use Rattle.router_core.specs.Views.{plain_of}
use Rattle.net_text.specs.Lexing.{Text, lines_of}
use Rattle.world_core.specs.declared.schedule.Event.{Event}
use Rattle.world_core.specs.Verdicts.{judged}
use Rattle.schedule_text.specs.Events.{event_line, head_of_schedule}
use Rattle.schedule_text.specs.Reports.{snapshot_line, now_line}
use Rattle.worker_loop.specs.declared.journal.WorkerEvent.{WorkerEvent}
use Rattle.net_workers.specs.declared.record.Worked.{Worked}
use Rattle.text_engines.specs.declared.status.TheConstants.{DONE}
use Rattle.text_engines.specs.Decoding.{Output, output, WithinLimit, OrMemory}
use Rattle.schedule_text.specs.Routes.{router_text}
use Rattle.net_text.specs.Comments.{comments_text}
use Rattle.text_engines.specs.Engine.{limited}
use Rattle.thread_engines.specs.declared.chores.RunOptions.{RunOptions}
use Rattle.thread_engines.specs.declared.gates.Until.TheVariants.{Last}
use Rattle.thread_engines.specs.Records.{RunRecord, RunPrints}
use Rattle.text_engines.specs.Inputs.{LinesPrint}

-- ---- the text of a record

-- the events of a record, in the order of their stamps
abbrev pub events_of : List WorkerEvent → List Event
events_of entries = map (λ e. e.event) entries

-- each of these events as an order
abbrev pub events_text : List Event → List ℕ
events_text events = flat_map event_line events

-- the events behind the network's lines, and behind the line that begins a schedule
abbrev pub record_text : List Text → List Event → List ℕ
record_text lines events = head_of_schedule lines ++ events_text events

-- ---- the end of the threads

-- how each of these snapshots came out
abbrev pub verdicts_text : CollectorView → List ℕ → List ℕ
verdicts_text c numbers = flat_map (λ s. snapshot_line s (judged c s)) numbers

-- the path that each router keeps for the prefix of each origin
abbrev pub kept_text : {G : Type 0} → List Origin → List (Worked G) → List ℕ
kept_text origins workers = flat_map (λ w. router_text (plain_of w.router).router.kept w.router.number origins) workers

-- how the decided snapshots came out, and the paths that the routers keep: the lines of a report, without the routes of
-- settled snapshots
abbrev pub ending_text : {G : Type 0} → Plan → CollectorView → List (Worked G) → List ℕ
ending_text net c workers = (verdicts_text c c.decided ++ now_line) ++ kept_text net.origins workers

-- ---- both

-- the events, and behind them, as comments, what the threads ended in; and one more comment if that is longer than an
-- input may be
abbrev pub record_output : List Text → List Event → List ℕ → Output
record_output lines events ending = output (limited (record_text lines events ++ comments_text (lines_of ending))) DONE

-- ---- the text printed of a run

-- the text of what some threads did and ended in. There is a record of them, in which each router has the script that
-- `run` gives it, with all snapshots, and which is one of a run of the network that keeps the promises of runs
pub record PrintsRecord (options : RunOptions) (lines : List Text) (net : Plan) (out : Output) : Type 0 where
  pub threads : RunRecord options net options.snapshots
  pub are_decided : AreDecided threads.collector threads.collector.decided
  pub printed : out ≡ record_output lines (events_of threads.gathered) (ending_text net threads.collector threads.workers)

-- the text for the network that these lines spell
abbrev pub RecordGives : RunOptions → List Text → Plan → Output → Type 0
RecordGives options lines net out = RunPrints options Last net out (PrintsRecord options lines net out)

abbrev pub LinesRecord : RunOptions → List Text → Output → Type 0
LinesRecord options lines out = LinesPrint (RecordGives options lines) lines out

-- the text for an input, which may be too long
abbrev pub InputRecords : RunOptions → List ℕ → Output → Type 0
InputRecords options input out = WithinLimit (λ text. LinesRecord options (lines_of text)) input out

-- the text that the program prints: this one, or that memory ran out
abbrev pub Records : RunOptions → List ℕ → Output → Type 0
Records options input out = OrMemory (InputRecords options) input out
