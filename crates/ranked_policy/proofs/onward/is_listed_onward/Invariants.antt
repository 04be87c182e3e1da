-- none passed is the path
use Rattle.std.proofs.Common.{◌≡◌, ◌∷◌, take}
use Rattle.std.specs.List.{All}
use Rattle.ranked_policy.proofs.onward.is_listed_onward.Given as goal

abbrev pub invariant-loop-listed : goal.invariant-loop-listed
invariant-loop-listed l = All (λ listed. listed ≡ l.router ∷ l.rest → ⊥) (take l.listed-index l.paths)
