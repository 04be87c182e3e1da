-- The best of the words of peers is one, by the tables' definition and by that of stable paths.
use Rattle.std.proofs.Common.{◌≡◌, ℕ, Bool, true, false, cond, List, [], ◌∷◌, refl, sym, subst, inl, inr}
use Rattle.std.specs.Bool.{Decides}
use Rattle.std.specs.List.{Contains}
use Rattle.std.proofs.lemmas.Bool.{true≢false}
use Rattle.prefix_lanes.specs.Bits.{PrefixView}
use Rattle.ranked_policy.specs.Plans.{Plan}
use Rattle.ranked_policy.specs.Policies.{Table}
use Rattle.ranked_policy.specs.Choices.{HasPathOver, IsFirstOrNone}
use Rattle.rib_tables.specs.Words.{lists}
use Rattle.rib_tables.specs.Choices as tables
use Rattle.stable_paths.specs.Stable.{Problem, IsBestOf}
use Rattle.router_core.proofs.Naming.{decides_lists}

module _ (net : Plan) (u : ℕ) (q : PrefixView) (os : List PrefixView) (words : ℕ → List ℕ) where
  abbrev pub problem : Problem
  problem = record { net = net; prefix = q; originated = lists os q }

  module _ (table : Table) (own : table.router ≡ u) where
    own_to : (b : Bool) → Decides b (Contains os q) → (path : List ℕ) → tables.IsOwn (Contains os q) table.router path → path ≡ cond b (table.router ∷ []) []
    own_to true d path (inl h) = h.1
    own_to true d path (inr h) = absurd (h.0 (d.0 refl))
    own_to false d path (inl h) = absurd (true≢false (sym (d.1 h.0)))
    own_to false d path (inr h) = h.1

    own_from : (b : Bool) → Decides b (Contains os q) → (path : List ℕ) → path ≡ cond b (table.router ∷ []) [] → tables.IsOwn (Contains os q) table.router path
    own_from true d path h = inl (d.0 refl, h)
    own_from false d path h = inr ((λ c. true≢false (sym (d.1 c))), h)

    pub best_to : (path : List ℕ) → tables.IsBestOf (Contains os q) (HasPathOver net.links words u) table q path → IsBestOf problem words table path
    best_to path (inl h) = inl (h.0, own_to (lists os q) (decides_lists os q) path h.1)
    best_to path (inr h) = inr (h.0, subst (λ (n : ℕ). IsFirstOrNone (HasPathOver net.links words n) table q path) (sym own) h.1)

    pub best_from : (path : List ℕ) → IsBestOf problem words table path → tables.IsBestOf (Contains os q) (HasPathOver net.links words u) table q path
    best_from path (inl h) = inl (h.0, own_from (lists os q) (decides_lists os q) path h.1)
    best_from path (inr h) = inr (h.0, subst (λ (n : ℕ). IsFirstOrNone (HasPathOver net.links words n) table q path) own h.1)
