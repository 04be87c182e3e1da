-- the puts among the events before this one, and the two parts of them
use Rattle.std.proofs.Common.{take}
use Rattle.world_core.specs.Counting.{count_of, CountsPuts}
use Rattle.world_core.proofs.Counting.{Parted}
use Rattle.world_core.proofs.reordering.parts.Given as goal

abbrev pub invariant-loop-at : goal.invariant-loop-at
invariant-loop-at l =
    record {
      put : CountsPuts l.put (take l.at l.run);
      parts : Parted (count_of l.needed) l.inside l.run l.at l.first.items l.later.items;
    }
