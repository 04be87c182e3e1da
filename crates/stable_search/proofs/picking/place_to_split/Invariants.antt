-- the best is a place
use Rattle.std.proofs.Common.{◌<◌, length}
use Rattle.stable_search.proofs.picking.place_to_split.Given as goal

abbrev pub invariant-loop-place : goal.invariant-loop-place
invariant-loop-place l = l.best < length l.sets
