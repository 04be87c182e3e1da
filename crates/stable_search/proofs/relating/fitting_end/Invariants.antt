-- the bits so far say which values fit, and no other is set
use Rattle.std.proofs.Common.{◌≡◌, ◌<◌, ◌≤◌, ℕ, [], get_or}
use Rattle.std.specs.Prelude.{◌↔◌}
use Rattle.std.specs.Int.{bit_at}
use Rattle.stable_search.specs.Picks.{Has}
use Rattle.stable_search.specs.Seats.{FitsEnd}
use Rattle.stable_search.proofs.relating.fitting_end.Given as goal

abbrev pub invariant-loop-value : goal.invariant-loop-value
invariant-loop-value l =
    ((b : ℕ) → b < l.value → (Has l.fits b ↔ FitsEnd l.other l.one.router (get_or l.other.values.items b []) l.path))
    × ((b : ℕ) → l.value ≤ b → bit_at l.fits b ≡ 0)
