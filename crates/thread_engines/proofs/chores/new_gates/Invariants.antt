-- the gates that were made, before those of the routers that are left, are all; and none has given a chore
use Rattle.std.proofs.Common.{◌≡◌, ◌++◌, [], drop, map}
use Rattle.std.specs.List.{AllByRecursion}
use Rattle.thread_engines.specs.Gates.{asked_of, asked_for, scripts_for, given_by}
use Rattle.thread_engines.proofs.chores.new_gates.Given as goal

abbrev pub invariant-loop-router : goal.invariant-loop-router
invariant-loop-router l = record {
  asked : map asked_of l.gates.items ++ asked_for l.until (scripts_for l.network l.spacing l.left (drop l.router-index l.router-items))
      ≡ asked_for l.until (scripts_for l.network l.spacing l.fn.snapshots l.network.routers);
  nothing : AllByRecursion (λ gate. given_by gate ≡ []) l.gates.items;
}
