-- the distances up to this one are known
use Rattle.stable_search.specs.Fixing.{AreFar}
use Rattle.stable_search.proofs.distance.distances.Given as goal

abbrev pub invariant-loop-distance : goal.invariant-loop-distance
invariant-loop-distance l = AreFar l.instance l.choosers l.distance l.distances.items
