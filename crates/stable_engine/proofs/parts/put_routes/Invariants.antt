-- what was put, before what is left, is what all routers are printed as
use Rattle.std.proofs.Common.{◌≡◌, ◌++◌, drop}
use Rattle.stable_engine.specs.Listing.{routes_text}
use Rattle.stable_engine.proofs.parts.put_routes.Given as goal

abbrev pub invariant-loop-router : goal.invariant-loop-router
invariant-loop-router l =
    l.out.items ++ routes_text l.prefix (drop l.router-index l.routers) l.parts ≡ l.fn.out.items ++ routes_text l.prefix l.routers l.parts
