-- the routers that were made, and those that are left, are all
use Rattle.std.proofs.Common.{◌≡◌, ◌++◌, map, drop}
use Rattle.std.specs.List.{AllByRecursion}
use Rattle.ranked_policy.specs.Plans.{numbers}
use Rattle.world_core.specs.Views.{IsNewRouter}
use Rattle.world_core.proofs.opening.new_routers.Given as goal

abbrev pub invariant-loop-router : goal.invariant-loop-router
invariant-loop-router l =
    record {
      numbers : map (λ r. r.number) l.made.items ++ map (λ r. r.asn) (drop l.router-index l.router-items) ≡ numbers l.router-items;
      new : AllByRecursion (IsNewRouter l.fn.network) l.made.items;
    }
