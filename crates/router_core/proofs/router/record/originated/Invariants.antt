use Rattle.std.proofs.Common.{◌≡◌, ◌++◌, drop}
use Rattle.router_core.specs.Recorded.{own_of}
use Rattle.router_core.proofs.router.record.originated.Given as goal

-- what is found, then what is left, is all
abbrev pub invariant-loop-prefix_at : goal.invariant-loop-prefix_at
invariant-loop-prefix_at l = l.own.items ++ own_of (drop l.prefix_at l.origins) l.tables.originated ≡ own_of l.origins l.tables.originated
