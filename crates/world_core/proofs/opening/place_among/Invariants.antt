-- none passed is the peer's
use Rattle.std.proofs.Common.{◌≡◌, ◌<◌, ℕ, Some}
use Rattle.std.specs.List.{slice_get}
use Rattle.ranked_policy.specs.declared.network.Link.{Link}
use Rattle.world_core.proofs.opening.place_among.Given as goal

abbrev pub invariant-loop-place : goal.invariant-loop-place
invariant-loop-place l = (k : ℕ) (m : Link) → k < l.place → slice_get l.links k ≡ Some m → m.other ≡ l.peer → ⊥
