-- Routers with their policies for the prefix.
use Rattle.std.specs.Prelude.{ℕ, ◌≡◌, ◌↔◌, List, [], ◌∷◌, IsTrue}
use mathlib.Core.Logic.{◌⊎◌}
use Rattle.ranked_policy.specs.declared.network.Link.{Link}
use Rattle.ranked_policy.specs.Choosing.{chosen_permits}
use Rattle.ranked_policy.specs.Policies.{Table, IsTableOf, Originates}
use Rattle.ranked_policy.specs.Choices.{Speaks}
use Rattle.stable_paths.specs.Stable.{Problem}
use Rattle.stable_search.specs.Fits.{GoesOver}
use Rattle.stable_search.specs.declared.chooser.Chooser.{Chooser}

-- a router of the problem, with its policy for the prefix
pub record IsChooser (p : Problem) (it : Chooser) : Type 0 where
  pub table : Table
  pub of : IsTableOf p.net it.router table
  pub origin : IsTrue it.is_origin ↔ Originates table p.prefix table.router
  pub speaks : Speaks it.policy table p.prefix

-- the paths that a router may have in a stable assignment, by its policy
abbrev pub MayChoose : List Link → Chooser → List ℕ → Type 0
MayChoose links it path =
    (IsTrue it.is_origin × (path ≡ it.router ∷ []))
    ⊎ ((IsTrue it.is_origin → ⊥) × ((path ≡ []) ⊎ (chosen_permits it.policy path × GoesOver links it.router path)))
