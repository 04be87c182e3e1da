-- the peers that were made, and those of the links that are left, are all
use Rattle.std.proofs.Common.{◌≡◌, ◌++◌, map, drop}
use Rattle.std.specs.List.{AllByRecursion}
use Rattle.router_model.specs.Settings.{peers}
use Rattle.router_side.specs.SideOf.{side, side_opening}
use Rattle.router_core.proofs.opening.new_peers.Given as goal

abbrev pub invariant-loop-link : goal.invariant-loop-link
invariant-loop-link l =
    record {
      numbers : map (λ p. p.number) l.made.items ++ map (λ k. k.other) (drop l.link-index l.link-items) ≡ peers l.fn.network l.fn.number;
      sides : AllByRecursion (λ p. side p.side ≡ side_opening l.fn.config l.fn.network.settings.width) l.made.items;
    }
