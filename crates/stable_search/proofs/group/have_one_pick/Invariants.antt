-- the groups passed have one pick
use Rattle.std.proofs.Common.{◌≡◌, length, take}
use Rattle.std.specs.List.{All}
use Rattle.stable_search.proofs.group.have_one_pick.Given as goal

abbrev pub invariant-loop-group : goal.invariant-loop-group
invariant-loop-group l = All (λ group. length group.picks ≡ 1) (take l.group-index l.groups)
