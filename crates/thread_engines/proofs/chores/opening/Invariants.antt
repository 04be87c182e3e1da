-- the chores that were put, before those of what is left, are all
use Rattle.std.proofs.Common.{◌≡◌, ◌++◌, drop, map}
use Rattle.router_model.specs.Settings.{peers}
use Rattle.thread_engines.specs.Gates.{opening}
use Rattle.thread_engines.proofs.GateLemmas.{chosen, start, starts, originate, is_of}
use Rattle.thread_engines.proofs.chores.opening.Given as goal

abbrev pub invariant-loop-link : goal.invariant-loop-link
invariant-loop-link l = l.chores.items ++ starts (drop l.link-index l.link-items) ≡ map start (peers l.fn.network l.number)

abbrev pub invariant-loop-origin : goal.invariant-loop-origin
invariant-loop-origin l = l.chores.items ++ chosen originate (is_of l.number) (drop l.origin-index l.origin-items) ≡ opening l.fn.network l.number
