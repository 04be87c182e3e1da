-- the parts of the groups passed
use Rattle.std.proofs.Common.{◌≡◌, ℕ, length}
use Rattle.stable_search.specs.declared.every.Component.{Component}
use Rattle.stable_search.specs.declared.group.Group.{Group}
use Rattle.stable_search.specs.Seats.{StandsAt}
use Rattle.stable_search.specs.Groups.{IsPartOf}
use Rattle.stable_search.proofs.stable.parts_of.Given as goal

abbrev pub invariant-loop-group : goal.invariant-loop-group
invariant-loop-group l =
    (length l.parts.items ≡ length l.yielded)
    × ((g : ℕ) (group : Group) (part : Component) → StandsAt l.yielded g group → StandsAt l.parts.items g part → IsPartOf l.seats l.levels group part)
