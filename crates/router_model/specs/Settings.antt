-- The network as a router sees it, and how routers choose (Griffin, Shepherd and Wilfong 2002).
-- g is a setting, u v routers' numbers, q a prefix.
use Rattle.std.specs.Prelude.{ℕ, ◌<◌, ◌^◌, ◌==◌, Bool, ◌&&◌, cond, List, [], ◌∷◌, map}
use Rattle.std.specs.List.{list_any}
use Rattle.prefix_lanes.specs.Bits.{PrefixView, is_prefix}
use Rattle.ranked_policy.specs.Plans.{Plan, IsRouter, IsNamed, IsNetwork, numbers}
pub use Rattle.ranked_policy.specs.Peers.{joins, linked, peers}
use Rattle.ranked_policy.specs.declared.network.Origin.{Origin}
use Rattle.ranked_policy.specs.declared.network.NetRouter as network
use Rattle.stable_paths.specs.Stable.{IsBest}

-- a network, and the best path of each router for a prefix, by whether it originates the prefix and by the path heard
-- from each peer
pub record Setting : Type 0 where
  pub net : Plan
  pub best : ℕ → PrefixView → Bool → (ℕ → List ℕ) → List ℕ

-- every router chooses by rank: `best` gives the best of its choices
abbrev pub ChoosesByRank : Setting → Type 0
ChoosesByRank g =
    (u : ℕ) → IsRouter g.net.routers u → (q : PrefixView) → IsNamed g.net.origins q → (originated : Bool) (words : ℕ → List ℕ)
    → IsBest (record { net = g.net; prefix = q; originated = originated }) words u (g.best u q originated words)

-- a network whose hold time fits the two octets of an OPEN (RFC 4271 section 4.2), and whose routers choose by rank
pub record IsSetting (g : Setting) : Type 0 where
  pub network : IsNetwork g.net
  pub hold : g.net.settings.hold < 2 ^ 16
  pub chooses : ChoosesByRank g

-- u is a router of the network
abbrev pub is_router : Setting → ℕ → Bool
is_router g u = list_any (λ v. u == v) (numbers g.net.routers)

-- the network names an origin of the prefix
abbrev pub names : List Origin → PrefixView → Bool
names origins q = list_any (λ origin. is_prefix origin.prefix q) origins

-- the network names router u as an origin of the prefix
abbrev pub is_origin : List Origin → ℕ → PrefixView → Bool
is_origin origins u q = list_any (λ origin. is_prefix origin.prefix q && (origin.router == u)) origins

-- the prefixes that the network names, rising
abbrev pub prefixes : Setting → List PrefixView
prefixes g = map (λ origin. origin.prefix) g.net.origins

-- the BGP Identifier of a router (RFC 4271 section 1.1)
abbrev pub identifier : List network.NetRouter → ℕ → ℕ
identifier [] u = 0
identifier (router ∷ others) u = cond (router.asn == u) router.id (identifier others u)
