-- the sets of the values passed
use Rattle.std.proofs.Common.{◌≡◌, ◌<◌, ℕ, [], length, get_or}
use Rattle.std.specs.Prelude.{◌↔◌}
use Rattle.stable_search.specs.Picks.{Has}
use Rattle.stable_search.specs.Seats.{FitsBoth}
use Rattle.stable_search.proofs.relating.what_fits.Given as goal

abbrev pub invariant-loop-value : goal.invariant-loop-value
invariant-loop-value l =
    (length l.fits.items ≡ l.value)
    × ((a b : ℕ) → a < l.value → b < length l.other.values.items
    → (Has (get_or l.fits.items a 0) b ↔ FitsBoth l.one l.other (get_or l.one.values.items a []) (get_or l.other.values.items b [])))
