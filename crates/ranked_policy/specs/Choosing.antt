-- What each kind of policy permits and prefers.
use Rattle.std.specs.Prelude.{ℕ, ◌≡◌, List, [], ◌∷◌, Option, Some}
use Rattle.std.specs.List.{Contains}
use Rattle.ranked_policy.specs.declared.policy.Chosen.{Chosen}
use Rattle.ranked_policy.specs.declared.policy.Chosen.TheVariants.{Only, Ranked, Shortest}
use Rattle.ranked_policy.specs.Paths.{IsRoute, EndsWith}
use Rattle.ranked_policy.specs.Orders.{IsStrictTotalOrder, ComesFirst, IsShorter}
use Rattle.ranked_policy.specs.Laws.{one_path_is_an_order, listed_paths_are_an_order, shorter_first_is_an_order}

-- a listed path that ends at the origin, if there is one
abbrev pub IsRankedPath : List (List ℕ) → Option ℕ → List ℕ → Type 0
IsRankedPath paths origin path = Contains paths path × ((v : ℕ) × (origin ≡ Some v) × EndsWith path v)

abbrev pub chosen_permits : Chosen → List ℕ → Type 0
chosen_permits (Only only) path = path ≡ only.router ∷ []
chosen_permits (Ranked rule) path = IsRankedPath rule.paths.now rule.origin path
chosen_permits (Shortest all) path = IsRoute all.router (λ v. all.origin ≡ Some v) path

abbrev pub chosen_prefers : Chosen → List ℕ → List ℕ → Type 0
chosen_prefers (Only only) a b = ⊥
chosen_prefers (Ranked rule) a b = ComesFirst rule.paths.now a b
chosen_prefers (Shortest all) a b = IsShorter a b

pub chosen_is_an_order : (chosen : Chosen) → IsStrictTotalOrder (chosen_permits chosen) (chosen_prefers chosen)
chosen_is_an_order (Only only) = one_path_is_an_order (only.router ∷ [])
chosen_is_an_order (Ranked rule) = listed_paths_are_an_order rule.paths.now (λ path. (v : ℕ) × (rule.origin ≡ Some v) × EndsWith path v)
chosen_is_an_order (Shortest all) = shorter_first_is_an_order (IsRoute all.router (λ v. all.origin ≡ Some v))
