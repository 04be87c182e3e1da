-- of the picks passed the values at the places are left
use Rattle.std.proofs.Common.{◌≡◌, ◌++◌, take, drop, map}
use Rattle.stable_search.specs.Groups.{at_places}
use Rattle.stable_search.proofs.parting.keep_values_at.Given as goal

abbrev pub invariant-loop-pick : goal.invariant-loop-pick
invariant-loop-pick l = l.picks ≡ map (λ pick. at_places pick l.places) (take l.pick-index l.fn.picks) ++ drop l.pick-index l.fn.picks
