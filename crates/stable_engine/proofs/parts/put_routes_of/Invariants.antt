-- what was put, before what is left, is what all parts are printed as
use Rattle.std.proofs.Common.{◌≡◌, ◌++◌, drop}
use Rattle.stable_engine.specs.Listing.{routes_of}
use Rattle.stable_engine.proofs.parts.put_routes_of.Given as goal

abbrev pub invariant-loop-part : goal.invariant-loop-part
invariant-loop-part l =
    l.out.items ++ routes_of l.prefix l.router (drop l.part-index l.parts) ≡ l.fn.out.items ++ routes_of l.prefix l.router l.parts
