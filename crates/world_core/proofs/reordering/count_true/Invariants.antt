-- those of the flags before this one that say inside
use Rattle.std.proofs.Common.{◌≡◌, take}
use Rattle.world_core.specs.Through.{count_true}
use Rattle.world_core.proofs.reordering.count_true.Given as goal

abbrev pub invariant-loop-is_inside : goal.invariant-loop-is_inside
invariant-loop-is_inside l = l.count ≡ count_true (take l.is_inside-index l.inside)
