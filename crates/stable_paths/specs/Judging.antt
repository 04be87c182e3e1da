-- What a check of an assignment answers.
use Rattle.std.specs.Prelude.{ℕ, ◌≡◌, ◌≢◌, ◌<◌, List, [], ◌∷◌, Result, Ok, Err}
use mathlib.Core.Logic.{◌⊎◌}
use Rattle.ranked_policy.specs.declared.network.NetRouter.{NetRouter}
use Rattle.ranked_policy.specs.Plans.{IsRouter}
use Rattle.stable_paths.specs.declared.verdict.Check.{Check}
use Rattle.stable_paths.specs.declared.verdict.Check.TheVariants.{Stable, Unstable}
use Rattle.stable_paths.specs.declared.verdict.Mover.{Mover}
use Rattle.stable_paths.specs.declared.refusal.StableError.{StableError}
use Rattle.stable_paths.specs.declared.refusal.StableError.TheVariants as errors
use Rattle.stable_paths.specs.Stable.{Problem, IsBest, IsStable, MayHave}

-- the least router of which a property does not hold
pub record IsLeastWithout (p : Problem) (Holds : ℕ → Type 0) (u : ℕ) : Type 0 where
  pub router : IsRouter p.net.routers u
  pub fails : Holds u → ⊥
  pub below : (v : ℕ) → IsRouter p.net.routers v → v < u → Holds v

-- each router may have the path that it has
abbrev pub IsPermittedAll : Problem → (ℕ → List ℕ) → Type 0
IsPermittedAll p paths = (u : ℕ) → IsRouter p.net.routers u → MayHave p.net p.prefix u (paths u)

-- the least router whose path is not its best, with its path and its best
pub record IsMoving (p : Problem) (paths : ℕ → List ℕ) (u : ℕ) (has best : List ℕ) : Type 0 where
  pub least : IsLeastWithout p (λ v. IsBest p paths v (paths v)) u
  pub has_it : has ≡ paths u
  pub best_is : IsBest p paths u best

abbrev pub IsVerdict : Problem → (ℕ → List ℕ) → Check → Type 0
IsVerdict p paths Stable = IsStable p paths
IsVerdict p paths (Unstable u has best) = IsMoving p paths u has best

-- the verdict on paths that are all permitted, or the least router whose path is not, or want of memory
abbrev pub IsJudged : Problem → (ℕ → List ℕ) → Result Check StableError → Type 0
IsJudged p paths (Ok check) = IsPermittedAll p paths × IsVerdict p paths check
IsJudged p paths (Err (errors.NotPermitted u)) = IsLeastWithout p (λ v. MayHave p.net p.prefix v (paths v)) u
IsJudged p paths (Err errors.Memory) = IsPermittedAll p paths

-- a router that has not the best of its choices, with its path and its best
pub record IsMover (p : Problem) (paths : ℕ → List ℕ) (m : Mover) : Type 0 where
  pub router : IsRouter p.net.routers m.router
  pub has_it : m.has ≡ paths m.router
  pub best_is : IsBest p paths m.router m.best
  pub moves : m.best ≢ m.has

-- each of these routers, in their order, has the best of its choices, or is the next that is listed
abbrev pub AreMovers : Problem → (ℕ → List ℕ) → List NetRouter → List Mover → Type 0
AreMovers p paths [] movers = movers ≡ []
AreMovers p paths (r ∷ rs) movers =
    (IsBest p paths r.asn (paths r.asn) × AreMovers p paths rs movers)
    ⊎ ((m : Mover) × (rest : List Mover) × (movers ≡ m ∷ rest) × (m.router ≡ r.asn) × IsMover p paths m × AreMovers p paths rs rest)
