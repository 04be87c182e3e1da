-- so many lengths are listed
use Rattle.std.proofs.Common.{◌≡◌, length}
use Rattle.wheel_search.specs.Lists.{AreLevels}
use Rattle.wheel_search.proofs.listing.levels.Given as goal

abbrev pub invariant-loop-length : goal.invariant-loop-length
invariant-loop-length l = AreLevels l.instance l.levels.items × (length l.levels.items ≡ l._length)
