-- what was put, before what is left, is what all are printed as
use Rattle.std.proofs.Common.{◌≡◌, ◌++◌, drop}
use Rattle.thread_engines.specs.Recording.{events_of, events_text}
use Rattle.thread_engines.proofs.record.text.put_events.Given as goal

abbrev pub invariant-loop-entry : goal.invariant-loop-entry
invariant-loop-entry l =
    l.out.items ++ events_text (events_of (drop l.entry-index l.entries))
    ≡ l.fn.out.items ++ events_text (events_of l.entries)
