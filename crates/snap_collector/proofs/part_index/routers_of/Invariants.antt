-- those of the members so far
use Rattle.std.proofs.Common.{◌≡◌, length, map, take}
use Rattle.snap_collector.proofs.part_index.routers_of.Given as goal

abbrev pub invariant-loop-slot : goal.invariant-loop-slot
invariant-loop-slot l = (length l.routers ≡ 64) × (take l.slot l.routers ≡ map (λ m. m.router) (take l.slot l.members))
