-- Links as they are seen from either end.
use Rattle.std.specs.Prelude.{ℕ, ◌≡◌, ◌<◌, ◌↔◌, List}
use Rattle.std.specs.List.{All, AllPairs, Any}
use mathlib.Core.Logic.{◌⊎◌}
use Rattle.ranked_policy.specs.declared.network.Link.{Link}
use Rattle.ranked_policy.specs.Plans.{Linked}

-- the order of ways: by the end that each leads from, then by the other
abbrev pub IsEarlier : Link → Link → Type 0
IsEarlier a b = (a.one < b.one) ⊎ ((a.one ≡ b.one) × (a.other < b.other))

-- a way leads from u to v
abbrev pub HasWay : List Link → ℕ → ℕ → Type 0
HasWay ways u v = Any (λ way. (way.one ≡ u) × (way.other ≡ v)) ways

-- the links in both directions
abbrev pub AreWays : List Link → List Link → Type 0
AreWays links ways = (u v : ℕ) → (HasWay ways u v ↔ Linked links u v)

-- the ways from u, by the end to which they lead
pub record AreFrom (u : ℕ) (ways here : List Link) : Type 0 where
  pub from : All (λ way. way.one ≡ u) here
  pub rising : AllPairs (λ way later. way.other < later.other) here
  pub exact : (v : ℕ) → (HasWay here u v ↔ HasWay ways u v)
