-- the groups passed keep the values that picks have
use Rattle.std.proofs.Common.{◌≡◌, List, length}
use Rattle.stable_search.specs.declared.way.Way.{Way}
use Rattle.stable_search.specs.Groups.{AreGroups}
use Rattle.stable_search.specs.Picks.{AllSome, Narrows}
use Rattle.stable_search.proofs.group.keep_picked.Given as goal

abbrev pub invariant-loop-group : goal.invariant-loop-group
invariant-loop-group l =
    (length l.sets ≡ length l.fn.sets) × ((ways : List Way) → AreGroups ways l.fn.sets l.groups → Narrows ways l.fn.sets l.sets)
    × (AllSome l.fn.sets → AllSome l.sets)
