-- all values are settled of the places of the level passed
use Rattle.std.proofs.Common.{◌≡◌, ◌<◌, ℕ, get_or}
use Rattle.stable_search.specs.Picks.{Has}
use Rattle.stable_search.proofs.following.are_settled.Given as goal

abbrev pub invariant-loop-place : goal.invariant-loop-place
invariant-loop-place l =
    (k value : ℕ) → k < l.place → get_or l.levels k 0 ≡ l.level → Has (get_or l.sets k 0) value → Has (get_or l.settled k 0) value
