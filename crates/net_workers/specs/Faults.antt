-- How the workers of a network ended, and why there is no record.
use Rattle.std.specs.Prelude.{ℕ, ◌≡◌, ◌<◌, ◌⊎◌, List, length, map, slice_index_or, Option, None, Some, IfNone, IfSome}
use Rattle.std.specs.List.{AllByRecursion}
use Rattle.ranked_policy.specs.Plans.{Plan, IsNetwork, numbers}
use Rattle.worker_loop.specs.declared.chore.Chore.{Chore}
use Rattle.net_workers.specs.declared.record.RunFault.{RunFault}
use Rattle.net_workers.specs.declared.record.RunFault.TheVariants as fault
use Rattle.net_workers.specs.declared.running.Finished.{Finished}
use Rattle.net_workers.specs.Dealt.{AreDealt}
use Rattle.net_workers.specs.Ran.{IsFresh, Ran, Ceased, lines_of, first_fault}

-- each worker began as one that had done nothing yet, with its ends of the network's pipes, and did what its gate said
-- if it has no fault
pub record HaveRun {G : Type 0} (given : G → List Chore) (plan : Plan) (turns : ℕ) (ends : List
    (Finished G)) : Type 0 where
  pub network : IsNetwork plan
  pub before : List (Finished G)
  pub routers : map (λ e. e.worker.router.number) before ≡ numbers plan.routers
  pub fresh : AllByRecursion (λ e. IsFresh given plan e.worker) before
  pub dealt : AreDealt plan plan.links (map lines_of before)
  pub many : length ends ≡ length before
  pub ran : (i : ℕ) (d : Finished G) → i < length before
      → IfNone (slice_index_or ends i d).fault (Ran given turns (slice_index_or before i d).worker
      (slice_index_or ends i d).worker)

-- every worker of the network has ended, by rising router; each that has a fault ended for it
pub record HaveEnded {G : Type 0} (given : G → List Chore) (plan : Plan) (turns : ℕ) (ends : List
    (Finished G)) : Type 0 where
  pub routers : map (λ e. e.worker.router.number) ends ≡ numbers plan.routers
  pub nets : AllByRecursion (λ e. e.worker.router.net ≡ plan) ends
  pub faults : AllByRecursion (λ e. IfSome e.fault (Ceased given turns e.worker)) ends
  pub ran : HaveRun given plan turns ends

-- why these workers leave no record: the first fault; or, if none has one, memory is wanting for the record, or the
-- board differs
abbrev pub IsFaultOf : {G : Type 0} → List (Finished G) → RunFault → Type 0
IsFaultOf ends why = (first_fault ends ≡ Some why) ⊎ ((first_fault ends ≡ None) × ((why ≡ fault.Memory) ⊎ (why ≡ fault.BoardDiffers)))

-- workers of the network whose gates have these scripts have ended, and this is their first fault
abbrev pub EndedSo : {G T : Type 0} → (G → List Chore) → (G → T) → Plan → ℕ → List T → Option RunFault → Type 0
EndedSo {G} given script plan turns scripts first =
    (ends : List (Finished G)) × HaveEnded given plan turns ends × (map (λ e. script e.worker.gate) ends ≡ scripts)
    × (first_fault ends ≡ first)

-- why there is no record: the worker of the least router that has a fault was refused; or none has a fault, and the
-- board differs. A want of memory may be a worker's, or that of the work around them
abbrev pub FaultOf : {G T : Type 0} → (G → List Chore) → (G → T) → Plan → ℕ → List T → RunFault → Type 0
FaultOf given script plan turns scripts fault.Memory = Unit {0}
FaultOf given script plan turns scripts fault.BadLimits = Unit {0}
FaultOf given script plan turns scripts (fault.WorkerRefused u) = EndedSo given script plan turns scripts (Some (fault.WorkerRefused u))
FaultOf given script plan turns scripts fault.BoardDiffers = EndedSo given script plan turns scripts None
