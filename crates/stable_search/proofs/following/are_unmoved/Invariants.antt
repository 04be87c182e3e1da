-- at the ends passed a value of a higher level doesn't matter
use Rattle.std.proofs.Common.{◌<◌, ℕ, get_or}
use Rattle.stable_search.specs.declared.way.Way.{Way}
use Rattle.stable_search.specs.Parting.{IsFree}
use Rattle.stable_search.proofs.following.are_unmoved.Given as goal

abbrev pub invariant-loop-end : goal.invariant-loop-end
invariant-loop-end l =
    (k : ℕ) (d : Way) → k < l.end-index → get_or l.levels (get_or l.ends k d).to 0 < get_or l.levels (get_or l.ends k d).from 0
    → IsFree l.sets (get_or l.ends k d)
