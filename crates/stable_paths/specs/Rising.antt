-- Routers with their paths, by rising router.
use Rattle.std.specs.Prelude.{ℕ, ◌≡◌, ◌≢◌, ◌≤◌, ◌<◌, List, length, take, drop, slice_index_or}
use Rattle.std.specs.List.{All, AllPairs}
use Rattle.stable_paths.specs.declared.assignment.Assigned.{Assigned}

abbrev pub Rise : List Assigned → Type 0
Rise paths = AllPairs (λ a b. a.router < b.router) paths

-- the router stands at this place first
pub record StandsAt (paths : List Assigned) (router place : ℕ) : Type 0 where
  pub inside : place < length paths
  pub before : All (λ a. a.router ≢ router) (take place paths)
  pub here : (d : Assigned) → (slice_index_or paths place d).router ≡ router

-- the router stands nowhere, and those before this place are below it, those behind above
pub record BelongsAt (paths : List Assigned) (router place : ℕ) : Type 0 where
  pub inside : place ≤ length paths
  pub before : All (λ a. a.router < router) (take place paths)
  pub behind : All (λ a. router < a.router) (drop place paths)
