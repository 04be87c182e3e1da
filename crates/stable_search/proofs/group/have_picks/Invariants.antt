-- the groups passed have a pick
use Rattle.std.proofs.Common.{◌<◌, length, take}
use Rattle.std.specs.List.{All}
use Rattle.stable_search.proofs.group.have_picks.Given as goal

abbrev pub invariant-loop-group : goal.invariant-loop-group
invariant-loop-group l = All (λ group. 0 < length group.picks) (take l.group-index l.groups)
