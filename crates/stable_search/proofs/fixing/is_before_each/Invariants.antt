-- the listed paths passed are no better
use Rattle.std.proofs.Common.{◌≡◌, ◌∷◌, ◌<◌, ℕ, List, [], get_or}
use Rattle.ranked_policy.specs.Choosing.{chosen_prefers}
use Rattle.ranked_policy.specs.Paths.{BeginsWith}
use Rattle.stable_search.proofs.fixing.is_before_each.Given as goal

abbrev pub invariant-loop-listed : goal.invariant-loop-listed
invariant-loop-listed l =
    (k : ℕ) (rest : List ℕ) → k < l.listed-index → get_or l.paths k [] ≡ l.router ∷ l.peer ∷ rest
    → BeginsWith l.path l.router × chosen_prefers l.policy l.path (l.router ∷ l.peer ∷ rest)
