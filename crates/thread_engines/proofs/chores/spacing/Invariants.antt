-- the openings of the routers passed have room
use Rattle.std.proofs.Common.{◌≤◌, length, take}
use Rattle.std.specs.List.{All}
use Rattle.thread_engines.specs.Gates.{opening}
use Rattle.thread_engines.proofs.chores.spacing.Given as goal

abbrev pub invariant-loop-router : goal.invariant-loop-router
invariant-loop-router l = All (λ r. length (opening l.network r.asn) ≤ l.turns) (take l.router-index l.routers)
