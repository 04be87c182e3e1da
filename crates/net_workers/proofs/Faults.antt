-- How the workers ended, and why there is no record.
use Rattle.std.proofs.Common.{◌≡◌, ℕ, suc, ◌<◌, arith, List, [], ◌∷◌, length, map, refl, ap, ◌∙◌, inl, inr, Option, None, Some}
use Rattle.std.specs.Prelude.{IfNone, IfSome, IfOk, IfErr, OnOk, IsErrAnd, Result, Ok, Err, slice_index_or}
use Rattle.std.specs.List.{AllByRecursion}
use Rattle.ranked_policy.specs.Plans.{Plan, IsNetwork, numbers}
use Rattle.worker_loop.specs.declared.chore.Chore.{Chore}
use Rattle.worker_loop.specs.declared.worker.WorkerFault.{WorkerFault}
use Rattle.worker_loop.specs.declared.worker.WorkerFault.TheVariants as worker
use Rattle.worker_loop.specs.Whole.{IsLaterWorker}
use Rattle.net_workers.specs.declared.record.RunFault.{RunFault}
use Rattle.net_workers.specs.declared.record.RunFault.TheVariants as fault
use Rattle.net_workers.specs.declared.record.Journals.{Journals}
use Rattle.net_workers.specs.declared.record.Worked.{Worked}
use Rattle.net_workers.specs.declared.running.Finished.{Finished}
use Rattle.net_workers.specs.Lanes.{wiring_of}
use Rattle.net_workers.specs.Dealt.{AreDealt}
use Rattle.net_workers.specs.Ran.{AreRecord, IsFresh, Ran, Ceased, worked_of, lines_of, fault_of, or_else, first_fault}
use Rattle.net_workers.specs.Runs.{JournalsKeepPromises}
use Rattle.net_workers.specs.Ways.{AreWays, passed_in}
use Rattle.net_workers.specs.Handed.{JournalsOf}
use Rattle.net_workers.specs.Faults.{HaveEnded, IsFaultOf, FaultOf}
use Rattle.net_workers.proofs.Records.{all_by}

-- ---- a fault of a worker

not_limits_by : (u : ℕ) (f : Option WorkerFault) (rest : Option RunFault) → (rest ≡ Some fault.BadLimits → ⊥) → or_else (fault_of u f) rest ≡ Some fault.BadLimits → ⊥
not_limits_by u None rest other h = other h
not_limits_by u (Some worker.Memory) rest other h = cc
not_limits_by u (Some worker.Refused) rest other h = cc

not_limits : {G : Type 0} → (ends : List (Finished G)) → first_fault ends ≡ Some fault.BadLimits → ⊥
not_limits [] h = cc
not_limits (e ∷ es) h = not_limits_by e.worker.router.number e.fault (first_fault es) (not_limits es) h

never_differs_by : (u : ℕ) (f : Option WorkerFault) (rest : Option RunFault) → (rest ≡ Some fault.BoardDiffers → ⊥) → or_else (fault_of u f) rest ≡ Some fault.BoardDiffers → ⊥
never_differs_by u None rest other h = other h
never_differs_by u (Some worker.Memory) rest other h = cc
never_differs_by u (Some worker.Refused) rest other h = cc

never_differs : {G : Type 0} → (ends : List (Finished G)) → first_fault ends ≡ Some fault.BoardDiffers → ⊥
never_differs [] h = cc
never_differs (e ∷ es) h = never_differs_by e.worker.router.number e.fault (first_fault es) (never_differs es) h

-- ---- results

pub err_so : {A E : Type 0} → (r : Result A E) (P Q : E → Type 0) → ((e : E) → P e → Q e) → IfErr r P → IfErr r Q
err_so (Ok x) P Q f h = tt
err_so (Err e) P Q f h = f e h

pub ok_so : {A E : Type 0} → (r : Result A E) (P Q : Type 0) → (P → Q) → OnOk r P → OnOk r Q
ok_so (Ok x) P Q f h = f h
ok_so (Err e) P Q f h = tt

-- memory was wanting where no worker has a fault
pub wants_memory : {A G : Type 0} → (r : Result A RunFault) (ends : List (Finished G)) → first_fault ends ≡ None → IsErrAnd r (λ why. why ≡ fault.Memory) → IfErr r (IsFaultOf ends)
wants_memory (Ok x) ends quiet h = tt
wants_memory (Err why) ends quiet h = inr (quiet, inl h)

-- no fault of workers is one of limits
pub is_inside : {G : Type 0} → (ends : List (Finished G)) (why : RunFault) → IsFaultOf ends why → why ≡ fault.BadLimits → ⊥
is_inside ends fault.BadLimits (inl first) is = not_limits ends first
is_inside ends fault.BadLimits (inr (quiet, inl wants)) is = cc
is_inside ends fault.BadLimits (inr (quiet, inr differs)) is = cc
is_inside ends fault.Memory h is = cc
is_inside ends (fault.WorkerRefused u) h is = cc
is_inside ends fault.BoardDiffers h is = cc

-- the scripts of workers are the same in their record
pub worked_script : {G T : Type 0} → (script : G → T) (ends : List (Finished G)) → map (λ (w : Worked G). script w.gate) (map worked_of ends) ≡ map (λ (e : Finished G). script e.worker.gate) ends
worked_script script [] = refl
worked_script script (e ∷ es) = ap (λ ts. script e.worker.gate ∷ ts) (worked_script script es)

-- what a record of workers that have ended says, with their scripts
pub journals_are : {G T : Type 0} (given : G → List Chore) (script_of : G → T) (plan : Plan) (turns : ℕ) (scripts : List T) (ends : List (Finished G)) (r : Result (Journals G) RunFault)
    → map (λ e. script_of e.worker.gate) ends ≡ scripts → IfOk r (λ j. j.workers.items ≡ map worked_of ends) → IfOk r (λ j. AreWays plan j.ways.items)
    → IfOk r (λ j. AreRecord given plan turns (passed_in j.ways.items) j.workers.items j.collector) → IfOk r (λ j. JournalsKeepPromises plan (passed_in j.ways.items) j.workers.items j.collector)
    → IfOk r (JournalsOf given script_of plan turns scripts)
journals_are given script_of plan turns scripts ends (Ok j) same worked ways recorded promises = record {
  script = ap (map (λ w. script_of w.gate)) worked ∙ worked_script script_of ends ∙ same;
  ways = ways;
  recorded = recorded;
  promises = promises;
}
journals_are given script_of plan turns scripts ends (Err why) same worked ways recorded promises = tt

module _ {G : Type 0} (given : G → List Chore) (plan : Plan) (turns : ℕ) where
  abbrev Later : List (Finished G) → List (Finished G) → Type 0
  Later before after = (i : ℕ) (d : Finished G) → i < length before → IsLaterWorker wiring_of (slice_index_or before i d).worker (slice_index_or after i d).worker

  numbers_stay : (before after : List (Finished G)) → length after ≡ length before → Later before after
      → map (λ e. e.worker.router.number) after ≡ map (λ e. e.worker.router.number) before
  numbers_stay [] [] many later = refl
  numbers_stay [] (a ∷ ends) many later = absurd (omega (arith, many))
  numbers_stay (b ∷ bs) [] many later = absurd (omega (arith, many))
  numbers_stay (b ∷ bs) (a ∷ ends) many later =
      let here = later 0 a (omega arith) in
      let rest = numbers_stay bs ends (omega (arith, many)) (λ i d below. later (suc i) d (omega (arith, below))) in
      λ i. here.number i ∷ rest i

  nets_stay : (before after : List (Finished G)) → length after ≡ length before → Later before after → AllByRecursion (λ e. IsFresh given plan e.worker) before
      → AllByRecursion (λ e. e.worker.router.net ≡ plan) after
  nets_stay [] [] many later fresh = tt
  nets_stay [] (a ∷ ends) many later fresh = absurd (omega (arith, many))
  nets_stay (b ∷ bs) [] many later fresh = absurd (omega (arith, many))
  nets_stay (b ∷ bs) (a ∷ ends) many later fresh = (
    (let here = later 0 a (omega arith) in here.net ∙ fresh.0.net),
    nets_stay bs ends (omega (arith, many)) (λ i d below. later (suc i) d (omega (arith, below))) fresh.1,
  )

  pub have_ended : (before after : List (Finished G)) → length after ≡ length before
      → ((i : ℕ) (d : Finished G) → i < length before → IsLaterWorker wiring_of (slice_index_or before i d).worker (slice_index_or after i d).worker)
      → ((i : ℕ) (d : Finished G) → i < length before → IfSome (slice_index_or after i d).fault (Ceased given turns (slice_index_or after i d).worker))
      → ((i : ℕ) (d : Finished G) → i < length before → IfNone (slice_index_or after i d).fault (Ran given turns (slice_index_or before i d).worker (slice_index_or after i d).worker))
      → IsNetwork plan → map (λ e. e.worker.router.number) before ≡ numbers plan.routers → AllByRecursion (λ e. IsFresh given plan e.worker) before → AreDealt plan plan.links (map lines_of before)
      → HaveEnded given plan turns after
  have_ended before after many later ended ran network routers fresh dealt = record {
    routers = numbers_stay before after many later ∙ routers;
    nets = nets_stay before after many later fresh;
    faults = all_by (λ e. IfSome e.fault (Ceased given turns e.worker)) after (λ i d below. ended i d (omega (arith, many, below)));
    ran = record { network = network; before = before; routers = routers; fresh = fresh; dealt = dealt; many = many; ran = ran };
  }

  pub fault_is : {T : Type 0} → (script : G → T) (scripts : List T) (ends : List (Finished G)) (why : RunFault) → HaveEnded given plan turns ends
      → map (λ e. script e.worker.gate) ends ≡ scripts → IsFaultOf ends why → FaultOf given script plan turns scripts why
  fault_is script scripts ends fault.Memory h same is = tt
  fault_is script scripts ends fault.BadLimits h same is = tt
  fault_is script scripts ends (fault.WorkerRefused u) h same (inl first) = (ends, h, same, first)
  fault_is script scripts ends (fault.WorkerRefused u) h same (inr (quiet, inl wants)) = absurd cc
  fault_is script scripts ends (fault.WorkerRefused u) h same (inr (quiet, inr differs)) = absurd cc
  fault_is script scripts ends fault.BoardDiffers h same (inl first) = absurd (never_differs ends first)
  fault_is script scripts ends fault.BoardDiffers h same (inr (quiet, inl wants)) = absurd cc
  fault_is script scripts ends fault.BoardDiffers h same (inr (quiet, inr differs)) = (ends, h, same, quiet)
