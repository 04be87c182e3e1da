-- what is out, before the paths that are left, is what was out before all
use Rattle.std.proofs.Common.{◌≡◌, ◌++◌, drop}
use Rattle.wheel_search.proofs.listing.put_copies.Given as goal

abbrev pub invariant-loop-path : goal.invariant-loop-path
invariant-loop-path l = l.out.items ++ drop l.path-index l.paths ≡ l.fn.out.items ++ l.paths
