-- Laws of records.
use Rattle.std.specs.Prelude.{◌≡◌, ℕ, ◌≤◌, ◌⊎◌, List, ◌++◌, length, Ok}
use Rattle.std.specs.List.{AllByRecursion, flat_map}
use Rattle.ranked_policy.specs.Plans.{Plan}
use Rattle.router_model.specs.Settings.{Setting, IsSetting}
use Rattle.router_core.specs.Views.{plain_of}
use Rattle.world_core.specs.World.{World, new_world, played}
use Rattle.net_text.specs.Lexing.{lines_of}
use Rattle.net_text.specs.Networks.{SpellsNetwork}
use Rattle.schedule_text.specs.Reports.{snapshot_line, now_line}
use Rattle.schedule_text.specs.Routes.{outcome, routes_text}
use Rattle.play_engine.specs.Playing.{IsReport, Plays}
use Rattle.text_engines.specs.declared.status.TheConstants.{DONE}
use Rattle.text_engines.specs.declared.transfer.TheConstants.{INPUT_LIMIT}
use Rattle.text_engines.specs.Decoding.{Output, output, memory_output}
use Rattle.thread_engines.specs.declared.chores.RunOptions.{RunOptions}
use Rattle.thread_engines.specs.Records.{RunRecord}
use Rattle.thread_engines.specs.Recording.{PrintsRecord, Records, events_of, ending_text}

-- the lines of a report, without the routes of settled snapshots: how the snapshots of these numbers came out, and the
-- routes now
abbrev pub ends_of : Setting → World → List ℕ → List ℕ
ends_of g w numbers = (flat_map (λ s. snapshot_line s (outcome g.net w.made s)) numbers ++ now_line) ++ routes_text g.net w

-- a world did the events of the record, none of which is refused or finds nothing to do. Its routers are where the
-- threads left them, with the paths that they keep. This is its report, which says what the comments of the record say
pub record EndsAsRecorded (options : RunOptions) (net : Plan) (r : RunRecord options net options.snapshots) (g : Setting) (out : Output) : Type 0 where
  pub world : World
  pub plays : played g (new_world g) 0 (events_of r.gathered) ≡ Ok world
  pub did : world.run ≡ events_of r.gathered
  pub routers : AllByRecursion (λ w. (world.routers w.router.number).router ≡ (plain_of w.router).router) r.workers
  pub report : IsReport g world out
  pub ending : ends_of g world report.decided ≡ ending_text net r.collector r.workers

-- the text is that of a record of threads, and this is the report of the world that did what they did
pub record PlaysAsRecorded (options : RunOptions) (input text : List ℕ) (out : Output) : Type 0 where
  pub net : Plan
  pub spells : SpellsNetwork (lines_of input) net
  pub prints : PrintsRecord options (lines_of input) net (output text DONE)
  pub ends : (g : Setting) → g.net ≡ net → IsSetting g → EndsAsRecorded options net prints.threads g out

-- `play` leads a record, of a length that an input may have, to where the threads ended; or memory runs out
abbrev pub RecordsPlayBack : Type 0
RecordsPlayBack =
    (options : RunOptions) (input text : List ℕ) → Records options input (output text DONE) → length text ≤ INPUT_LIMIT
    → (out : Output) → Plays text out → PlaysAsRecorded options input text out ⊎ (out ≡ memory_output)
