-- the pipes that were made, and those of the links that are left, are all
use Rattle.std.proofs.Common.{◌≡◌, ◌++◌, map, drop, []}
use Rattle.std.specs.List.{AllByRecursion}
use Rattle.router_model.specs.Settings.{peers}
use Rattle.world_core.specs.Views.{KnowsBack}
use Rattle.world_core.proofs.opening.new_pipes.Given as goal

abbrev pub invariant-loop-link : goal.invariant-loop-link
invariant-loop-link l =
    record {
      peers : map (λ p. p.peer) l.made.items ++ map (λ k. k.other) (drop l.link-index l.link-items) ≡ peers l.fn.network l.fn.number;
      empty : AllByRecursion (λ p. p.items.items ≡ []) l.made.items;
      backs : AllByRecursion (KnowsBack l.fn.network l.fn.number) l.made.items;
    }
