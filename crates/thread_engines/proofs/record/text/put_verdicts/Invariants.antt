-- what was put, before what is left, is what all are printed as
use Rattle.std.proofs.Common.{◌≡◌, ◌++◌, drop}
use Rattle.thread_engines.specs.Recording.{verdicts_text}
use Rattle.thread_engines.proofs.record.text.put_verdicts.Given as goal

abbrev pub invariant-loop-number : goal.invariant-loop-number
invariant-loop-number l =
    l.out.items ++ verdicts_text l.collector (drop l.number-index l.numbers)
    ≡ l.fn.out.items ++ verdicts_text l.collector l.numbers
