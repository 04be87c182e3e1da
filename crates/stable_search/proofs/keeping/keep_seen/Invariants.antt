-- the places passed keep the values that picks have there
use Rattle.std.proofs.Common.{◌≡◌, List, length}
use Rattle.stable_search.specs.declared.way.Way.{Way}
use Rattle.stable_search.specs.Groups.{AreCovered}
use Rattle.stable_search.specs.Picks.{AllSome, Narrows}
use Rattle.stable_search.proofs.keeping.keep_seen.Given as goal

abbrev pub invariant-loop-k : goal.invariant-loop-k
invariant-loop-k l =
    (length l.sets ≡ length l.fn.sets) × ((ways : List Way) → AreCovered ways l.fn.sets l.places l.picks → Narrows ways l.fn.sets l.sets)
    × (AllSome l.fn.sets → AllSome l.sets)
