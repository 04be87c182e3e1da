-- Paths of routers, and the paths that a router may use (Griffin, Shepherd and Wilfong 2002, section 2).
use Rattle.std.specs.Prelude.{ℕ, ◌≡◌, ◌≢◌, ◌≤◌, List, [], ◌∷◌, ◌++◌, length}
use Rattle.std.specs.List.{AllPairs}
use Rattle.ranked_policy.specs.declared.limits.TheConstants.{LONGEST_PATH}

-- a path is a list of AS numbers, the nearest router first and the origin last; no router is in a simple one twice
abbrev pub IsSimple : List ℕ → Type 0
IsSimple path = AllPairs (λ u v. u ≢ v) path

abbrev pub BeginsWith : List ℕ → ℕ → Type 0
BeginsWith path u = (rest : List ℕ) × (path ≡ u ∷ rest)

abbrev pub EndsWith : List ℕ → ℕ → Type 0
EndsWith path v = (front : List ℕ) × (path ≡ front ++ v ∷ [])

-- a way of at most 16 routers from a router to an origin
pub record IsRoute (u : ℕ) (IsOrigin : ℕ → Type 0) (path : List ℕ) : Type 0 where
  pub begins : BeginsWith path u
  pub simple : IsSimple path
  pub short : length path ≤ LONGEST_PATH
  pub ends : (v : ℕ) × IsOrigin v × EndsWith path v
