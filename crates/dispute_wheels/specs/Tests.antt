-- What is feasible, liked better, and hangs on what, as functions that compute.
use Rattle.std.specs.Prelude.{ℕ, zero, suc, ◌==◌, ◌&&◌, ◌||◌, Bool, false, cond, List, [], ◌∷◌, ◌++◌, map}
use Rattle.std.specs.List.{list_any}
use Rattle.prefix_lanes.specs.Bits.{PrefixView}
use Rattle.ranked_policy.specs.declared.limits.TheConstants.{LONGEST_PATH}
use Rattle.ranked_policy.specs.Plans.{Plan, numbers}
use Rattle.ranked_policy.specs.Peers.{linked}
use Rattle.ranked_policy.specs.Tests.{same_path, starts_at, permits, prefers}
use Rattle.stable_paths.specs.ByRank.{table_of}

abbrev pub is_known : Plan → ℕ → Bool
is_known net u = list_any (λ v. v == u) (numbers net.routers)

abbrev pub permits_at : Plan → PrefixView → ℕ → List ℕ → Bool
permits_at net q u path = is_known net u && permits (table_of net u) q path

abbrev pub is_feasible : Plan → PrefixView → List ℕ → Bool
is_feasible net q [] = false
is_feasible net q (u ∷ []) = permits_at net q u (u ∷ [])
is_feasible net q (u ∷ v ∷ rest) = permits_at net q u (u ∷ v ∷ rest) && (linked net u v && is_feasible net q (v ∷ rest))

abbrev pub likes : Plan → PrefixView → List ℕ → List ℕ → Bool
likes net q [] b = false
likes net q (u ∷ us) [] = false
likes net q (u ∷ us) (v ∷ vs) = (u == v) && (is_known net u && prefers (table_of net u) q (u ∷ us) (v ∷ vs))

abbrev pub hangs_at : Plan → PrefixView → ℕ → List ℕ → List ℕ → Bool
hangs_at net q u path rest = is_feasible net q path && (is_feasible net q (u ∷ rest) && (same_path path (u ∷ rest) || likes net q (u ∷ rest) path))

abbrev pub hangs : Plan → PrefixView → List ℕ → List ℕ → Bool
hangs net q [] rest = false
hangs net q (u ∷ us) [] = false
hangs net q (u ∷ us) (v ∷ rest) = hangs_at net q u (u ∷ us) (v ∷ rest)

-- ---- lists of paths

unfoldable pub with_one : ℕ → List (List ℕ) → List (List ℕ)
with_one u paths = map (λ path. u ∷ path) paths

unfoldable pub with_each : List ℕ → List (List ℕ) → List (List ℕ)
with_each [] paths = []
with_each (u ∷ us) paths = with_one u paths ++ with_each us paths

-- each list of at most so many of these numbers, once if each number stands once
unfoldable pub lists_of : List ℕ → ℕ → List (List ℕ)
lists_of all zero = [] ∷ []
lists_of all (suc n) = [] ∷ with_each all (lists_of all n)

-- those that pass a test
unfoldable pub those : (List ℕ → Bool) → List (List ℕ) → List (List ℕ)
those f [] = []
those f (x ∷ xs) = cond (f x) (x ∷ those f xs) (those f xs)

-- the feasible paths of a path's router that it likes better
abbrev pub better_than : Plan → PrefixView → List ℕ → List (List ℕ)
better_than net q path =
    those (λ other. is_feasible net q other && likes net q other path) (lists_of (numbers net.routers) LONGEST_PATH)

-- the feasible paths of a router
abbrev pub paths_of : Plan → PrefixView → ℕ → List (List ℕ)
paths_of net q u = those (λ path. is_feasible net q path && starts_at u path) (lists_of (numbers net.routers) LONGEST_PATH)
