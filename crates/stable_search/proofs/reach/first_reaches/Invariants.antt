-- the reaches of the places passed
use Rattle.std.proofs.Common.{◌≡◌, ◌<◌, ℕ, length, get_or}
use Rattle.stable_search.specs.Reaching.{IsFirstReach}
use Rattle.stable_search.specs.Seats.{StandsAt}
use Rattle.stable_search.specs.declared.chooser.Chooser.{Chooser}
use Rattle.stable_search.proofs.reach.first_reaches.Given as goal

abbrev pub invariant-loop-place : goal.invariant-loop-place
invariant-loop-place l =
    (length l.reaches.items ≡ l.place)
    × ((place : ℕ) (it : Chooser) → place < l.place → StandsAt l.choosers place it
    → IsFirstReach l.instance.net.links l.choosers l.fixed l.origin place it (get_or l.reaches.items place 0))
