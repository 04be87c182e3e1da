-- what was taken inside by the events before this one
use Rattle.std.proofs.Common.{◌≡◌, ℕ, take}
use Rattle.world_core.specs.Counting.{count_of}
use Rattle.world_core.specs.Picking.{taken_inside}
use Rattle.world_core.proofs.reordering.taken_inside.Given as goal

abbrev pub invariant-loop-at : goal.invariant-loop-at
invariant-loop-at l = (u v : ℕ) → count_of l.counts u v ≡ taken_inside u v (take l.at l.inside) (take l.at l.run)
