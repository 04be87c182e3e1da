-- Laws of the definitions of stable assignments.
use Rattle.std.specs.Prelude.{ℕ, ◌≡◌, ◌↔◌, Bool, true, false, List, []}
use Rattle.prefix_lanes.specs.Bits.{PrefixView}
use Rattle.ranked_policy.specs.Plans.{IsRouter, Linked}
use Rattle.run_model.specs.Routes.{Network, IsStableAssignment}
use Rattle.stable_paths.specs.Stable.{Problem, IsProblem, IsBest, IsStable}

-- a router has at most one best path
abbrev pub OneBest : Type 0
OneBest = (p : Problem) → IsProblem p → (paths : ℕ → List ℕ) (u : ℕ) (a b : List ℕ) → IsBest p paths u a → IsBest p paths u b → a ≡ b

-- if the origin does not originate the prefix, no router has a path
abbrev pub NoOriginNoPath : Type 0
NoOriginNoPath = (p : Problem) → IsProblem p → p.originated ≡ false → (paths : ℕ → List ℕ) → IsStable p paths → (u : ℕ) → IsRouter p.net.routers u → paths u ≡ []

-- a network of the model of runs in which routers choose as here
pub record Chooses {M : Type 0} (p : Problem) (originated : ℕ → Bool) (g : Network M PrefixView (List ℕ)) : Type 0 where
  pub routers : (u : ℕ) → ((g.routers u ≡ true) ↔ IsRouter p.net.routers u)
  pub linked : (u v : ℕ) → ((g.linked u v ≡ true) ↔ Linked p.net.links u v)
  pub no_path : g.no_path ≡ []
  pub best : (u : ℕ) → IsRouter p.net.routers u → (words : ℕ → List ℕ) → IsBest p words u (g.best u p.prefix (originated u) words)

-- in such a network the stable assignments are those of the model
abbrev pub StableIsTheModels : Type 0 → Type 0
StableIsTheModels M =
    (p : Problem) → IsProblem p → (originated : ℕ → Bool) (g : Network M PrefixView (List ℕ)) → Chooses p originated g → (paths : ℕ → List ℕ)
    → (IsStable p paths ↔ IsStableAssignment g p.prefix originated paths)
