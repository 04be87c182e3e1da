-- The board under its lock, as contracts see it.
use Rattle.std.specs.Prelude.{ℕ, ◌≡◌, ◌≤◌, ◌<◌, ◌+◌, max, List, [], ◌∷◌, ◌++◌, map, None, Some, Result, Ok, Err}
use Rattle.std.specs.List.{AllByRecursion}
use Rattle.run_model.specs.declared.stamps.TheConstants.{GREATEST_STAMP}
use Rattle.run_model.specs.Stamps.{Collected, Pairwise}
use Rattle.snap_marker.specs.Parts.{router_of, offer_of}
use Rattle.snap_marker.specs.Recordings.{MadeOffer}
use Rattle.snap_marker.specs.declared.part.Offer.{Offer}
use Rattle.snap_collector.specs.declared.answer.Taken.{Taken}
use Rattle.snap_collector.specs.declared.answer.CollectError.{CollectError}
use Rattle.snap_collector.specs.declared.answer.CollectError.TheVariants as refusal
use Rattle.snap_collector.specs.Collecting.{made_by, member_of}
use Rattle.snap_collector.specs.Collector.{CollectorView, made_for}
use Rattle.snap_collector.specs.Laws.{IsKeptOf}
use Rattle.snap_collector.specs.Taking.{Takes, refusal_of}
use Rattle.offer_board.specs.declared.board.Made.{Made}

-- the collector, every offer that was made, late ones too, and the stamp of the last offer
pub record BoardView : Type 0 where
  pub collector : CollectorView
  pub offers : List Made
  pub stamp : ℕ

-- an offer with its stamp and its router
abbrev pub collected : Made → Collected MadeOffer
collected m = record { stamp = m.stamp; router = router_of m.offer; offer = made_by m.offer }

abbrev pub collected_in : List Made → List (Collected MadeOffer)
collected_in offers = map collected offers

-- the offers alone
abbrev pub offers_in : List Made → List MadeOffer
offers_in offers = map (λ m. made_by m.offer) offers

-- stamps rise, none is above the last, and the collector keeps for each number what it has to keep of the offers
pub record IsBoard (x : BoardView) : Type 0 where
  pub rising : Pairwise (λ a b. a.stamp < b.stamp) (collected_in x.offers)
  pub last : AllByRecursion (λ m. m.stamp ≤ x.stamp) x.offers
  pub few : x.stamp ≤ GREATEST_STAMP
  pub kept : (s : ℕ) → IsKeptOf (map member_of x.collector.members) s (offers_in x.offers) (made_for x.collector s)

-- the second offer says the same as the first, and is of the same router
pub record SaysSame (o p : Offer) : Type 0 where
  pub router : router_of p ≡ router_of o
  pub offer : offer_of p ≡ offer_of o

abbrev pub AreCopies : Offer → Offer × Offer → Type 0
AreCopies o copies = SaysSame o copies.0 × SaysSame o copies.1

-- an offer joins those that were made, with this stamp
pub record Joins (x y : BoardView) (after : ℕ) (o : Offer) (taken : Taken) (at : ℕ) : Type 0 where
  pub stamp : at ≡ max x.stamp after + 1
  pub few : at ≤ GREATEST_STAMP
  pub offers : collected_in y.offers ≡ collected_in x.offers ++ record { stamp = at; router = router_of o; offer = made_by o } ∷ []
  pub last : y.stamp ≡ at
  pub takes : Takes x.collector y.collector o (Ok taken)

-- a stamp is left for an offer of a router whose last event has this one
abbrev pub HasStamp : BoardView → ℕ → Type 0
HasStamp x stamp = max x.stamp stamp + 1 ≤ GREATEST_STAMP

-- an offer of a router whose last event has this stamp: first the collector's refusal is judged, then the stamp, and
-- memory last
abbrev pub Offers : BoardView → BoardView → ℕ → Offer → Result (Taken × ℕ) CollectError → Type 0
Offers x y stamp o (Ok answer) = Joins x y stamp o answer.0 answer.1
Offers x y stamp o (Err (refusal.Stranger u)) = (refusal_of x.collector o ≡ Some (refusal.Stranger u)) × (y ≡ x)
Offers x y stamp o (Err (refusal.Twice u)) = (refusal_of x.collector o ≡ Some (refusal.Twice u)) × (y ≡ x)
Offers x y stamp o (Err refusal.StampEnd) = (refusal_of x.collector o ≡ None) × (GREATEST_STAMP < max x.stamp stamp + 1) × (y ≡ x)
Offers x y stamp o (Err refusal.Memory) = (refusal_of x.collector o ≡ None) × HasStamp x stamp × (y ≡ x)
