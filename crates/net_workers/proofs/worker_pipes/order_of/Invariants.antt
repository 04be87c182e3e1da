-- the places that were put, and those of the links that are left, are all
use Rattle.std.proofs.Common.{◌≡◌, ◌++◌, drop, map}
use Rattle.net_workers.specs.Lanes.{is_to, place_among}
use Rattle.net_workers.proofs.worker_pipes.order_of.Given as goal

abbrev pub invariant-loop-link : goal.invariant-loop-link
invariant-loop-link l =
    l.order.items ++ map (λ v. place_among (is_to v) l.pairs) (map (λ link. link.other) (drop l.link-index l.links)) ≡ map (λ v. place_among (is_to v) l.pairs) (map (λ link. link.other) l.fn.links)
