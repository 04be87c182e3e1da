-- What a run in threads hands back.
use Rattle.std.specs.Prelude.{ℕ, ◌≡◌, List, map}
use Rattle.ranked_policy.specs.Plans.{Plan}
use Rattle.worker_loop.specs.declared.chore.Chore.{Chore}
use Rattle.net_workers.specs.declared.record.Journals.{Journals}
use Rattle.net_workers.specs.declared.record.Record.{Record}
use Rattle.net_workers.specs.Ran.{IsRecord, AreRecord}
use Rattle.net_workers.specs.Runs.{RunKeepsPromises, JournalsKeepPromises}
use Rattle.net_workers.specs.Ways.{AreWays, passed_in}

module _ {G T : Type 0} (given : G → List Chore) (script_of : G → T) (plan : Plan) (turns : ℕ) (scripts : List T) where
  -- the journals of threads that ran for so many chores each: router by router, the gate that comes back has the script
  -- that stands for it here; gathered they are the record of a run of the network, in which UPDATEs passed in order and
  -- whose snapshots can be believed
  pub record JournalsOf (r : Journals G) : Type 0 where
    pub script : map (λ w. script_of w.gate) r.workers.items ≡ scripts
    pub ways : AreWays plan r.ways.items
    pub recorded : AreRecord given plan turns (passed_in r.ways.items) r.workers.items r.collector
    pub promises : JournalsKeepPromises plan (passed_in r.ways.items) r.workers.items r.collector

  -- the same of a record, whose events are gathered
  pub record RecordOf (r : Record G) : Type 0 where
    pub script : map (λ w. script_of w.gate) r.workers.items ≡ scripts
    pub ways : AreWays plan r.ways.items
    pub recorded : IsRecord given plan turns (passed_in r.ways.items) r.workers.items r.collector r.gathered.items
    pub promises : RunKeepsPromises plan (passed_in r.ways.items) r.workers.items r.collector r.gathered.items
