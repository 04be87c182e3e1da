-- what is left is of the set, and what went has no partner
use Rattle.std.proofs.Common.{◌≡◌, ◌<◌, ◌⊎◌, ℕ, get_or}
use lib.Bits.{bit_and}
use Rattle.stable_search.specs.Picks.{Has}
use Rattle.stable_search.proofs.narrowing.with_partner.Given as goal

abbrev pub invariant-loop-value : goal.invariant-loop-value
invariant-loop-value l =
    ((value : ℕ) → Has l.kept value → Has l.mine value)
    × ((value : ℕ) → value < 64 → Has l.mine value → Has l.kept value ⊎ (bit_and (get_or l.fits value 0) l.theirs ≡ 0))
