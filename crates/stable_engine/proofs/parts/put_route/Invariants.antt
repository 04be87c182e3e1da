-- nothing was put, and the router is none of those that were passed
use Rattle.std.proofs.Common.{◌≡◌, [], drop, get_or}
use Rattle.stable_search.specs.Every.{choices_of}
use Rattle.stable_engine.specs.Listing.{route_text}
use Rattle.stable_engine.proofs.parts.put_route.Given as goal

abbrev pub invariant-loop-k : goal.invariant-loop-k
invariant-loop-k l =
    (l.out.items ≡ l.fn.out.items)
    × (route_text l.prefix l.router (drop l.k l.part.routers) (drop l.k (get_or (choices_of l.part) 0 []))
    ≡ route_text l.prefix l.router l.part.routers (get_or (choices_of l.part) 0 []))
