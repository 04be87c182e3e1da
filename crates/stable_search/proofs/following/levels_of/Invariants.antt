-- the places have levels, and those that follow higher ones than the next have
use Rattle.std.proofs.Common.{◌≡◌, ◌<◌, ◌+◌, ℕ, length, get_or}
use Rattle.stable_search.specs.Following.{AreLevels}
use Rattle.stable_search.proofs.following.levels_of.Given as goal

abbrev pub invariant-loop-step : goal.invariant-loop-step
invariant-loop-step l =
    AreLevels l.ends l.sets l.levels.items
    × ((place : ℕ) → place < length l.levels.items → 0 < get_or l.levels.items place 0 → length l.sets < get_or l.levels.items place 0 + l.step)
    × (length l.stuck.items ≡ length l.sets)
