-- What a search for a dispute wheel answers and refuses.
use Rattle.std.specs.Prelude.{ℕ, ◌≢◌, ◌<◌, ⊤, List, length, map}
use Rattle.std.specs.List.{All, AllPairs}
use Rattle.ranked_policy.specs.Paths.{BeginsWith}
use Rattle.ranked_policy.specs.Policies.{Table, IsTableOf, Originates, NoRuleFor}
use Rattle.stable_paths.specs.Stable.{Problem}
use Rattle.dispute_wheels.specs.Wheels as wheels
use Rattle.dispute_wheels.specs.Wheels.{IsWheel}
use Rattle.dispute_wheels.specs.Feasible.{IsFeasible, game_of}
use Rattle.dispute_wheels.specs.Promises.{IsSafe}
use Rattle.wheel_search.specs.declared.rim.Rim.{Rim}
use Rattle.wheel_search.specs.declared.rim.Safety.{Safety}
use Rattle.wheel_search.specs.declared.rim.Safety.TheVariants.{Safe, Wheel}
use Rattle.wheel_search.specs.declared.refusal.WheelError.{WheelError}
use Rattle.wheel_search.specs.declared.refusal.WheelError.TheVariants.{UnlistedPaths, Memory}

-- a rim of the answer as one of the definitions of dispute wheels
abbrev pub as_rim : Rim → wheels.Rim
as_rim rim = record { spoke = rim.spoke; over = rim.over }

-- there is no dispute wheel; or there is this one
abbrev pub IsAnswerOf : Problem → Safety → Type 0
IsAnswerOf p Safe = IsSafe p
IsAnswerOf p (Wheel rims) = IsWheel (game_of p) (map as_rim rims)

-- a router that does not originate the prefix has no rule for it, or has one
pub record HasNoRule (p : Problem) (u : ℕ) : Type 0 where
  pub table : Table
  pub of : IsTableOf p.net u table
  pub other : Originates table p.prefix u → ⊥
  pub none : NoRuleFor table.rules p.prefix

pub record HasRule (p : Problem) (u : ℕ) : Type 0 where
  pub table : Table
  pub of : IsTableOf p.net u table
  pub other : Originates table p.prefix u → ⊥
  pub some : NoRuleFor table.rules p.prefix → ⊥

-- a router has more feasible paths than this
pub record HasMorePaths (p : Problem) (u most : ℕ) : Type 0 where
  pub paths : List (List ℕ)
  pub each : All (λ path. BeginsWith path u × IsFeasible p.net p.prefix path) paths
  pub distinct : AllPairs (λ path later. path ≢ later) paths
  pub many : most < length paths

-- the router has no rule, and more feasible paths than this; want of memory says nothing
abbrev pub IsOverfull : Problem → ℕ → WheelError → Type 0
IsOverfull p most (UnlistedPaths u) = HasNoRule p u × HasMorePaths p u most
IsOverfull p most Memory = ⊤

-- and another router has a rule
abbrev pub IsRefusal : Problem → ℕ → WheelError → Type 0
IsRefusal p most (UnlistedPaths u) = HasNoRule p u × HasMorePaths p u most × ((v : ℕ) × HasRule p v)
IsRefusal p most Memory = ⊤
