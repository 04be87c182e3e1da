-- What is printed where a run was refused.
use Rattle.std.proofs.Common.{◌≡◌, ◌≢◌, refl, inl, inr}
use Rattle.ranked_policy.specs.Plans.{Plan}
use Rattle.net_workers.specs.declared.record.RunFault.{RunFault}
use Rattle.net_workers.specs.declared.record.RunFault.TheVariants as fault
use Rattle.text_engines.specs.Decoding.{Output}
use Rattle.thread_engines.specs.declared.chores.RunOptions.{RunOptions}
use Rattle.thread_engines.specs.declared.gates.Until.{Until}
use Rattle.thread_engines.specs.Records.{EndsIn, IsFaultOfRun, RunPrints, faulty}

module _ (options : RunOptions) (until : Until) (net : Plan) (out : Output) (of_record : Type 0) where
  pub run_fails : (why : RunFault) → why ≢ fault.Memory → IsFaultOfRun options net why → EndsIn options until net why → out ≡ faulty why → RunPrints options until net out of_record
  run_fails fault.Memory kind of ended is = absurd (kind refl)
  run_fails (fault.WorkerRefused u) kind (inl bad) ended is = absurd (let e = bad.0 in cc)
  run_fails (fault.WorkerRefused u) kind (inr good) ended is = inr (good.1, inl (inl (u, ended, is)))
  run_fails fault.BadLimits kind (inl bad) ended is = inl (bad.1, is)
  run_fails fault.BadLimits kind (inr good) ended is = absurd (good.0 refl)
  run_fails fault.BoardDiffers kind (inl bad) ended is = absurd (let e = bad.0 in cc)
  run_fails fault.BoardDiffers kind (inr good) ended is = inr (good.1, inl (inr (ended, is)))
