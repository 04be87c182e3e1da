-- the places passed keep the values that are marked there
use Rattle.std.proofs.Common.{◌≡◌, List, length}
use Rattle.stable_search.specs.declared.way.Way.{Way}
use Rattle.stable_search.specs.Picks.{AllSome, Narrows, SeesAll}
use Rattle.stable_search.proofs.keeping.keep_marked.Given as goal

abbrev pub invariant-loop-place : goal.invariant-loop-place
invariant-loop-place l =
    (length l.sets ≡ length l.fn.sets) × ((ways : List Way) → SeesAll ways l.fn.sets l.places l.seen → Narrows ways l.fn.sets l.sets)
    × (AllSome l.fn.sets → AllSome l.sets)
