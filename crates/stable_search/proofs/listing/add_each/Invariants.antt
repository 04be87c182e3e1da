-- the paths passed are there
use Rattle.std.proofs.Common.{take}
use Rattle.stable_search.specs.Listing.{AddsOnce}
use Rattle.stable_search.proofs.listing.add_each.Given as goal

abbrev pub invariant-loop-path : goal.invariant-loop-path
invariant-loop-path l = AddsOnce l.fn.values.items (take l.path-index l.paths) l.values.items
