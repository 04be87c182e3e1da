-- the sets of the values passed
use Rattle.std.proofs.Common.{◌≡◌, ◌<◌, ℕ, [], length, get_or}
use Rattle.std.specs.Prelude.{◌↔◌}
use Rattle.stable_search.specs.Picks.{Has}
use Rattle.stable_search.specs.Seats.{FitsEnd}
use Rattle.stable_search.proofs.relating.what_fits_end.Given as goal

abbrev pub invariant-loop-path : goal.invariant-loop-path
invariant-loop-path l =
    (length l.fits.items ≡ l.path-index)
    × ((a b : ℕ) → a < l.path-index → b < length l.other.values.items
    → (Has (get_or l.fits.items a 0) b ↔ FitsEnd l.other l.one.router (get_or l.other.values.items b []) (get_or l.one.values.items a [])))
