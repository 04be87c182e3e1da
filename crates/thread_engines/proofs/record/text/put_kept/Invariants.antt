-- what was put, before what is left, is what all are printed as
use Rattle.std.proofs.Common.{◌≡◌, ◌++◌, drop}
use Rattle.thread_engines.specs.Recording.{kept_text}
use Rattle.thread_engines.proofs.record.text.put_kept.Given as goal

abbrev pub invariant-loop-worked : goal.invariant-loop-worked
invariant-loop-worked g l =
    l.out.items ++ kept_text l.origins (drop l.worked-index l.workers)
    ≡ l.fn.out.items ++ kept_text l.origins l.workers
