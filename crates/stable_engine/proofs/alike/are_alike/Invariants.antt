-- of the routers that were passed each has one rule for both prefixes, or none
use Rattle.std.proofs.Common.{take}
use Rattle.std.specs.List.{All}
use Rattle.stable_engine.specs.Alike.{HaveOneRule}
use Rattle.stable_engine.proofs.alike.are_alike.Given as goal

abbrev pub invariant-loop-router : goal.invariant-loop-router
invariant-loop-router l = All (λ r. HaveOneRule r.rules l.one.prefix l.other.prefix) (take l.router-index l.network.routers)
