-- the values at the places passed
use Rattle.std.proofs.Common.{◌≡◌, take}
use Rattle.stable_search.specs.Groups.{at_places}
use Rattle.stable_search.proofs.parting.values_at.Given as goal

abbrev pub invariant-loop-place : goal.invariant-loop-place
invariant-loop-place l = l.values.items ≡ at_places l.pick (take l.place-index l.places)
