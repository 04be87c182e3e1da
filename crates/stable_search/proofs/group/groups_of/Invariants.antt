-- the labels passed have groups, none with more picks than may be
use Rattle.std.proofs.Common.{◌≤◌, length}
use Rattle.std.specs.List.{All}
use Rattle.stable_search.specs.Parting.{AreGrouped}
use Rattle.stable_search.proofs.group.groups_of.Given as goal

abbrev pub invariant-loop-label : goal.invariant-loop-label
invariant-loop-label l =
    AreGrouped l.sets l.labels l.ways l.label l.groups.items × All (λ group. length group.picks ≤ l.limits.most) l.groups.items
