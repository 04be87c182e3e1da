-- none of the links passed leads from the one to the other
use Rattle.std.proofs.Common.{◌≡◌, take}
use Rattle.std.specs.List.{All}
use Rattle.wheel_search.proofs.wait.leads_to.Given as goal

abbrev pub invariant-loop-link : goal.invariant-loop-link
invariant-loop-link l = All (λ way. (way.one ≡ l.router) × (way.other ≡ l.peer) → ⊥) (take l.link-index l.links)
