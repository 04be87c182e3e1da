-- The text printed for a task.
use Rattle.std.specs.Prelude.{ℕ, List}
use Rattle.net_text.specs.Lexing.{Text}
use Rattle.text_engines.specs.Decoding.{Output, Prints}
use Rattle.text_engines.specs.Checking.{Checks}
use Rattle.play_engine.specs.Playing.{Plays}
use Rattle.play_engine.specs.Cutting.{Cuts, Whys}
use Rattle.trace_engine.specs.Tracings.{Traces}
use Rattle.thread_engines.specs.Running.{LinesRun, Runs}
use Rattle.thread_engines.specs.Recording.{LinesRecord, Records}
use Rattle.safe_engine.specs.Answers.{Judges}
use Rattle.stable_engine.specs.Answers.{Lists}
use Rattle.command_words.specs.declared.asked.Task.{Task}
use Rattle.command_words.specs.declared.asked.Task.TheVariants as task
use Rattle.command_line.specs.declared.tasks.ThreadTask.{ThreadTask}
use Rattle.command_line.specs.declared.tasks.ThreadTask.TheVariants as threads

-- the text that a task without threads prints for an input
abbrev pub TaskPrints : Task → List ℕ → Output → Type 0
TaskPrints (task.Decode rule) = Prints rule
TaskPrints (task.Check all) = Checks all
TaskPrints task.Play = Plays
TaskPrints (task.Trace shows_octets) = Traces shows_octets
TaskPrints (task.Cut s) = Cuts s
TaskPrints (task.Why u) = Whys u
TaskPrints (task.Stable limits) = Lists limits
TaskPrints (task.Safe paths) = Judges paths

-- the text that a task of threads prints for the lines of a network
abbrev pub LinesPrintBy : ThreadTask → List Text → Output → Type 0
LinesPrintBy (threads.Run options) = LinesRun options
LinesPrintBy (threads.Record options) = LinesRecord options

-- the text that a task of threads prints for an input
abbrev pub ThreadsPrint : ThreadTask → List ℕ → Output → Type 0
ThreadsPrint (threads.Run options) = Runs options
ThreadsPrint (threads.Record options) = Records options
