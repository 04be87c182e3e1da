-- nothing is lost, and what the sets passed have in common with the values is there
use Rattle.std.proofs.Common.{◌<◌, ℕ, get_or}
use Rattle.std.specs.List.{Contains}
use Rattle.std.specs.Int.RustNames.{bit_and}
use Rattle.stable_search.proofs.following.add_common.Given as goal

abbrev pub invariant-loop-set : goal.invariant-loop-set
invariant-loop-set l =
    ((set : ℕ) → Contains l.fn.met.items set → Contains l.met.items set)
    × ((k : ℕ) → k < l.set-index → Contains l.met.items (bit_and (get_or l.sets k 0) l.values))
