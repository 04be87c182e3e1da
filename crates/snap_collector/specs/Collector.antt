-- What a collector keeps: every offer that was made, by the number of its snapshot.
use Rattle.std.specs.Prelude.{ℕ, ◌≡◌, ◌<◌, ◌==◌, ◌↔◌, Bool, true, cond, List, [], ◌∷◌, ◌++◌, map, filter, Option, None, Some, take, length}
use Rattle.std.specs.List.{All, AllPairs, Contains}
use Rattle.ranked_policy.specs.Plans.{Plan, Linked, numbers}
use Rattle.run_model.specs.Offers.{number_of}
use Rattle.snap_marker.specs.declared.part.Offer.{Offer}
use Rattle.snap_marker.specs.Recordings.{MadeOffer}
use Rattle.snap_collector.specs.declared.members.Member.{Member as MemberOf}
use Rattle.snap_marker.specs.declared.part.Part.{Part}
use Rattle.snap_marker.specs.declared.part.Offer.TheVariants as offer
use Rattle.snap_collector.specs.Collecting.{made_in, member_of}
use Rattle.snap_collector.specs.Verdicts.{Member, decides}

-- the offer is for this number
abbrev pub is_for : ℕ → MadeOffer → Bool
is_for s m = number_of m.offer == s

-- the routers of the network with their peers, the offers for each number, in their order, and the numbers that are decided
pub record CollectorView : Type 0 where
  pub members : List MemberOf
  pub offers : List (ℕ × List Offer)
  pub decided : List ℕ

-- the offers for a number
abbrev pub offers_at : List (ℕ × List Offer) → ℕ → List Offer
offers_at [] s = []
offers_at (e ∷ es) s = cond (s == e.0) e.1 (offers_at es s)

-- the offers made for each number, in their order
abbrev pub made_at : List (ℕ × List Offer) → ℕ → List MadeOffer
made_at entries s = made_in (offers_at entries s)

abbrev pub made_for : CollectorView → ℕ → List MadeOffer
made_for c s = made_at c.offers s

-- offers join those of their numbers
abbrev pub with_offers : (ℕ → List MadeOffer) → List MadeOffer → ℕ → List MadeOffer
with_offers made ms s = made s ++ filter (is_for s) ms

-- ---- the routers with their peers

-- the peers of a router of the network, rising
abbrev pub HasPeers : Plan → MemberOf → Type 0
HasPeers net m = AllPairs (λ u v. u < v) m.peers × ((v : ℕ) → Contains m.peers v ↔ Linked net.links m.router v)

-- every router of the network with its peers, rising
pub record AreMembers (net : Plan) (members : List MemberOf) : Type 0 where
  pub routers : map (λ m. m.router) members ≡ numbers net.routers
  pub peers : All (HasPeers net) members

-- ---- the numbers that are decided

-- these are the numbers whose offers decide, rising
pub record AreDecided (c : CollectorView) (numbers : List ℕ) : Type 0 where
  pub rising : AllPairs (λ s t. s < t) numbers
  pub exact : (s : ℕ) → Contains numbers s ↔ (decides (map member_of c.members) (made_for c s) ≡ true)

-- ---- the offers that are kept: up to the first that decides

abbrev pub kept_behind : List Member → List MadeOffer → List MadeOffer → List MadeOffer
kept_behind members front [] = front
kept_behind members front (m ∷ ms) = cond (decides members front) front (kept_behind members (front ++ m ∷ []) ms)

abbrev pub kept_of : List Member → List MadeOffer → List MadeOffer
kept_of members ms = kept_behind members [] ms

-- the first part of a router
abbrev pub first_part : List Offer → ℕ → Option Part
first_part [] u = None
first_part (offer.Part p ∷ os) u = cond (u == p.router) (Some p) (first_part os u)
first_part (offer.Lost l ∷ os) u = first_part os u

-- the offers for a number that are kept: a beginning of all of them
pub record AreKept (c : CollectorView) (s : ℕ) (kept : List Offer) : Type 0 where
  pub beginning : kept ≡ take (length kept) (offers_at c.offers s)
  pub exact : made_in kept ≡ kept_of (map member_of c.members) (made_for c s)

-- the first part of a router among the offers that are kept
abbrev pub IsPartOf : CollectorView → ℕ → ℕ → Option Part → Type 0
IsPartOf c s u part = (kept : List Offer) × AreKept c s kept × (part ≡ first_part kept u)
