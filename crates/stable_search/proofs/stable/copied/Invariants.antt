-- the paths passed
use Rattle.std.proofs.Common.{◌≡◌, take}
use Rattle.stable_search.proofs.stable.copied.Given as goal

abbrev pub invariant-loop-path : goal.invariant-loop-path
invariant-loop-path l = l.copy.items ≡ take l.path-index l.paths
