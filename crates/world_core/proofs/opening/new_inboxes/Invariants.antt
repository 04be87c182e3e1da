-- the inboxes that were made, and those of the routers that are left, are all
use Rattle.std.proofs.Common.{◌≡◌, ◌++◌, map, drop, []}
use Rattle.std.specs.List.{AllByRecursion}
use Rattle.ranked_policy.specs.Plans.{numbers}
use Rattle.router_model.specs.Settings.{peers}
use Rattle.world_core.specs.Views.{KnowsBack}
use Rattle.world_core.proofs.opening.new_inboxes.Given as goal

abbrev pub invariant-loop-router : goal.invariant-loop-router
invariant-loop-router l =
    record {
      routers : map (λ i. i.router) l.made.items ++ map (λ r. r.asn) (drop l.router-index l.router-items) ≡ numbers l.router-items;
      peers : AllByRecursion (λ i. map (λ p. p.peer) i.pipes.items ≡ peers l.fn.network i.router) l.made.items;
      empty : AllByRecursion (λ i. AllByRecursion (λ p. p.items.items ≡ []) i.pipes.items) l.made.items;
      backs : AllByRecursion (λ i. AllByRecursion (KnowsBack l.fn.network i.router) i.pipes.items) l.made.items;
    }
