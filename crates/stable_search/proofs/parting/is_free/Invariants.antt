-- the values passed fit all
use Rattle.std.proofs.Common.{◌<◌, ℕ, get_or}
use Rattle.stable_search.specs.Picks.{Has}
use Rattle.stable_search.proofs.parting.is_free.Given as goal

abbrev pub invariant-loop-value : goal.invariant-loop-value
invariant-loop-value l =
    (a b : ℕ) → a < l.value → Has (get_or l.sets l.way.from 0) a → Has (get_or l.sets l.way.to 0) b → Has (get_or l.way.fits.items a 0) b
