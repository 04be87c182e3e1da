-- How often a router may change its path for a prefix: numbers for the feasible paths of a network.
-- q is a prefix, u v routers' numbers, B gives each path its number.
use Rattle.std.specs.Prelude.{ℕ, ◌+◌, ◌*◌, ◌≤◌, List, [], ◌∷◌}
use Rattle.prefix_lanes.specs.Bits.{PrefixView}
use Rattle.ranked_policy.specs.Plans.{Plan}
use Rattle.stable_paths.specs.Stable.{Problem, IsProblem}
use Rattle.dispute_wheels.specs.Wheels.{HasWheel}
use Rattle.dispute_wheels.specs.Feasible.{IsFeasible, game_of}
use Rattle.dispute_wheels.specs.Tests.{better_than}
use Rattle.dispute_wheels.specs.Counting.{sum_over}
use Rattle.dispute_wheels.specs.RunChanges.{head_of}
use Rattle.dispute_wheels.specs.Promises.{IsSafe}

-- commands: how often each router is told to originate, to withdraw or to restart; dialled u v: the last incarnation that
-- router u dials towards v
module _ (commands : ℕ → ℕ) (dialled : ℕ → ℕ → ℕ) where
  -- how often the word on a path may come and go at its router: as often as the peer takes to the rest and leaves it,
  -- once more, once for each incarnation that the peer dials, and twice for each of its own. An origin's own path comes and
  -- goes by commands
  abbrev pub heard_at_most : (List ℕ → ℕ) → List ℕ → ℕ
  heard_at_most B [] = 0
  heard_at_most B (u ∷ []) = commands u
  heard_at_most B (u ∷ v ∷ rest) = 1 + dialled v u + 2 * dialled u v + B (v ∷ rest)

  -- the number of a path is at least twice the commands to its router, and what may be heard of it and of each path that
  -- its router likes better
  abbrev pub IsBound : Plan → PrefixView → (List ℕ → ℕ) → Type 0
  IsBound net q B =
      (path : List ℕ) → IsFeasible net q path
      → 2 * commands (head_of path) + sum_over (heard_at_most B) (path ∷ better_than net q path) ≤ B path

-- a network without a dispute wheel for the prefix has such numbers, whatever is commanded and dialled
abbrev pub SafeHaveBounds : Type 0
SafeHaveBounds =
    (p : Problem) → IsProblem p → IsSafe p → (commands : ℕ → ℕ) (dialled : ℕ → ℕ → ℕ)
    → (B : List ℕ → ℕ) × IsBound commands dialled p.net p.prefix B

-- where there is a dispute wheel there are none, even if nothing is commanded or dialled
abbrev pub WheelsHaveNoBound : Type 0
WheelsHaveNoBound =
    (p : Problem) → IsProblem p → HasWheel (game_of p) → (commands : ℕ → ℕ) (dialled : ℕ → ℕ → ℕ) (B : List ℕ → ℕ)
    → IsBound commands dialled p.net p.prefix B → ⊥
