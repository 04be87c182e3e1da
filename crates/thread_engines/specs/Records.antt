-- The record of a network in threads, and what is printed where there is none.
use Rattle.std.specs.Prelude.{ℕ, ◌≡◌, ◌≢◌, ◌≤◌, ◌⊎◌, List, map, codes}
use Rattle.ranked_policy.specs.Plans.{Plan}
use Rattle.snap_collector.specs.Collector.{CollectorView}
use Rattle.net_workers.specs.declared.record.RunFault.{RunFault}
use Rattle.net_workers.specs.declared.record.RunFault.TheVariants as fault
use Rattle.worker_loop.specs.declared.journal.WorkerEvent.{WorkerEvent}
use Rattle.net_workers.specs.declared.record.Worked.{Worked}
use Rattle.net_workers.specs.declared.record.ClosedPipe.{ClosedPipe}
use Rattle.net_workers.specs.Ran.{IsRecord}
use Rattle.net_workers.specs.Faults.{FaultOf}
use Rattle.net_workers.specs.Runs.{RunKeepsPromises}
use Rattle.net_workers.specs.Ways.{AreWays, passed_in}
use Rattle.text_engines.specs.Decoding.{Output, refused, memory_output}
use Rattle.thread_engines.specs.declared.chores.RunOptions.{RunOptions}
use Rattle.thread_engines.specs.declared.gates.RunGate.{RunGate}
use Rattle.thread_engines.specs.declared.gates.Until.{Until}
use Rattle.thread_engines.specs.Gates.{HasRoom, Script, asked_for, asked_of, given_by, script_of, scripts_for, spacing_of}

-- ---- what threads did

-- the script of each router: it starts its sessions, originates its prefixes and goes on in turns, and the least takes the
-- snapshots
abbrev pub run_scripts : RunOptions → Plan → List Script
run_scripts options net = scripts_for net (spacing_of net options) options.snapshots net.routers

-- a record of threads with these scripts, of which the least router took so many snapshots, and of their pipes: what they
-- did is one run of the network, which keeps the promises of runs
pub record RunRecord (options : RunOptions) (net : Plan) (taken : ℕ) : Type 0 where
  pub few : taken ≤ options.snapshots
  pub workers : List (Worked RunGate)
  pub ways : List ClosedPipe
  pub collector : CollectorView
  pub gathered : List WorkerEvent
  pub recorded : IsRecord given_by net options.turns (passed_in ways) workers collector gathered
  pub pipes : AreWays net ways
  pub gates : map (λ w. script_of w.gate) workers ≡ scripts_for net (spacing_of net options) taken net.routers
  pub promises : RunKeepsPromises net (passed_in ways) workers collector gathered

-- ---- why they have no record

-- some threads with these scripts end in this fault: it is that of the least router that has one
abbrev pub EndsIn : RunOptions → Until → Plan → RunFault → Type 0
EndsIn options until net why = FaultOf given_by asked_of net options.turns (asked_for until (run_scripts options net)) why

-- a network does not run: the chores have no room, or for another fault
abbrev pub IsFaultOfRun : RunOptions → Plan → RunFault → Type 0
IsFaultOfRun options net why = ((why ≡ fault.BadLimits) × (HasRoom net options → ⊥)) ⊎ ((why ≢ fault.BadLimits) × HasRoom net options)

-- ---- what is printed

-- the text for a fault of a run
abbrev pub faulty : RunFault → Output
faulty (fault.WorkerRefused u) = refused 0 (codes "G2")
faulty fault.BadLimits = refused 0 (codes "G3")
faulty fault.BoardDiffers = refused 0 (codes "G4")
faulty fault.Memory = memory_output

-- the text where a worker was refused; or where none has a fault, and the board and the journals differ
abbrev pub RunRefused : RunOptions → Until → Plan → Output → Type 0
RunRefused options until net out =
    ((u : ℕ) × EndsIn options until net (fault.WorkerRefused u) × (out ≡ faulty (fault.WorkerRefused u)))
    ⊎ (EndsIn options until net fault.BoardDiffers × (out ≡ faulty fault.BoardDiffers))

-- the text for a network: that the chores have no room, that the run was refused, or the text of a record
abbrev pub RunPrints : RunOptions → Until → Plan → Output → (of_record : Type 0) → Type 0
RunPrints options until net out of_record =
    ((HasRoom net options → ⊥) × (out ≡ faulty fault.BadLimits))
    ⊎ (HasRoom net options × (RunRefused options until net out ⊎ of_record))
