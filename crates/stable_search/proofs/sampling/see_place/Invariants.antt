-- the values passed that picks have are marked
use Rattle.std.proofs.Common.{◌≡◌, ◌<◌, List, ℕ, length, get_or}
use Rattle.stable_search.specs.Picks.{Has, Solves, MarksMore}
use Rattle.stable_search.proofs.sampling.see_place.Given as goal

abbrev pub invariant-loop-value : goal.invariant-loop-value
invariant-loop-value l =
    (length l.seen ≡ length l.fn.seen) × MarksMore l.fn.seen l.seen
    × ((pick : List ℕ) → Solves l.ways l.sets pick → get_or pick l.place 0 < l.value → Has (get_or l.seen l.place 0) (get_or pick l.place 0))
