-- what was moved, and what is left, are all
use Rattle.std.proofs.Common.{◌≡◌, ◌++◌, map}
use Rattle.net_workers.specs.Ran.{worked_of, lines_of}
use Rattle.net_workers.proofs.net.parted.Given as goal

abbrev pub invariant-loop-ended : goal.invariant-loop-ended
invariant-loop-ended g l = record {
  done : l.done.items ++ map worked_of l.ended-iterator.rest.items ≡ map worked_of l.fn.workers.items;
  ends : l.ends.items ++ map lines_of l.ended-iterator.rest.items ≡ map lines_of l.fn.workers.items;
}
