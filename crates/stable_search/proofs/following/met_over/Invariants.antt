-- what the sets have in common with what fits the values passed is there
use Rattle.std.proofs.Common.{◌<◌, ℕ, get_or}
use Rattle.std.specs.List.{Contains}
use Rattle.std.specs.Int.RustNames.{bit_and}
use Rattle.stable_search.specs.Picks.{Has}
use Rattle.stable_search.proofs.following.met_over.Given as goal

abbrev pub invariant-loop-value : goal.invariant-loop-value
invariant-loop-value l =
    (value : ℕ) → value < l.value → Has l.theirs value → (set : ℕ) → Contains l.sets set
    → Contains l.met.items (bit_and set (get_or l.end.fits.items value 0))
