-- What a refusal of a search for stable assignments means.
use Rattle.std.specs.Prelude.{ℕ, ◌≡◌, ◌≢◌, ◌<◌, ◌≤◌, ⊤, List, length, map}
use Rattle.std.specs.List.{All, AllPairs}
use Rattle.ranked_policy.specs.Plans.{IsRouter}
use Rattle.ranked_policy.specs.Policies.{Table, IsTableOf, Originates, NoRuleFor}
use Rattle.stable_paths.specs.Stable.{Problem}
use Rattle.stable_search.specs.declared.every.Component.{Component}
use Rattle.stable_search.specs.declared.limits.SearchLimits.{SearchLimits}
use Rattle.stable_search.specs.declared.refusal.SearchError.{SearchError}
use Rattle.stable_search.specs.declared.refusal.SearchError.TheVariants as refusals
use Rattle.stable_search.specs.Every.{choices_of}
use Rattle.stable_search.specs.Fits.{MayStand, FitTogether}

-- no part has more choices than so many
abbrev pub AreFew : ℕ → List Component → Type 0
AreFew most parts = All (λ part. length (choices_of part) ≤ most) parts

-- routers of the problem, rising, at least one
pub record AreSomeRouters (p : Problem) (routers : List ℕ) : Type 0 where
  pub some : 0 < length routers
  pub rising : AllPairs (λ u v. u < v) routers
  pub known : All (IsRouter p.net.routers) routers

-- more than so many choices of a path for each of these routers; the paths of a choice fit together, and no choice is
-- listed twice
pub record HasMoreChoices (p : Problem) (most : ℕ) (routers : List ℕ) : Type 0 where
  pub choices : List (List (List ℕ))
  pub more : most < length choices
  pub fit : All (λ choice. (paths : ℕ → List ℕ) × FitTogether p routers paths × (choice ≡ map paths routers)) choices
  pub once : AllPairs (λ choice later. choice ≢ later) choices

-- a router that isn't the origin and has no rule for the prefix has at least 64 different paths; one of them may be
-- empty, and each other is permitted and goes on over a peer
pub record MayHaveTooManyPaths (p : Problem) (router : ℕ) : Type 0 where
  pub table : Table
  pub of : IsTableOf p.net router table
  pub other : Originates table p.prefix router → ⊥
  pub none : NoRuleFor table.rules p.prefix
  pub paths : List (List ℕ)
  pub many : 64 ≤ length paths
  pub may : All (MayStand p.net.links p.prefix table) paths
  pub once : AllPairs (λ path later. path ≢ later) paths

-- what a refusal says before routers are searched; want of memory says nothing
abbrev pub IsPathsRefusal : Problem → SearchError → Type 0
IsPathsRefusal p (refusals.TooManyPaths router) = MayHaveTooManyPaths p router
IsPathsRefusal p (refusals.TooManyChoices routers) = ⊥
IsPathsRefusal p (refusals.TooManySteps routers) = ⊥
IsPathsRefusal p refusals.Memory = ⊤

-- what a refusal says of a problem, under these limits
abbrev pub IsRefusal : Problem → SearchLimits → SearchError → Type 0
IsRefusal p limits (refusals.TooManyPaths router) = MayHaveTooManyPaths p router
IsRefusal p limits (refusals.TooManyChoices routers) = AreSomeRouters p routers × HasMoreChoices p limits.most routers
IsRefusal p limits (refusals.TooManySteps routers) = AreSomeRouters p routers
IsRefusal p limits refusals.Memory = ⊤
