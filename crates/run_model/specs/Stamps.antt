-- Stamps: a number for each event, by which the journals of many threads are put into one order (Lamport 1978, logical
-- clocks).
use Rattle.std.specs.Prelude.{◌≡◌, ℕ, ◌<◌, ◌==◌, List, [], ◌∷◌, ◌++◌, filter, map, All}
use Rattle.std.specs.List.Sorted.{IsNonDecreasingBy}
use mathlib.Core.List.{IsPrefix}
use Rattle.run_model.specs.Network.{Journal, Order, Steps, Event, NetworkEvent, alone, puts, takes, offers, opening, Run}
use Rattle.run_model.specs.Journals.{puts_towards, takes_from, events_of, IsJournal}
use Rattle.run_model.specs.CausalOrder.{IsCausalOrder, closing}

-- each element stands so to each later one
abbrev pub Pairwise : {A : Type 0} → (A → A → Type 0) → List A → Type 0
Pairwise R [] = Unit {0}
Pairwise R (x ∷ xs) = All (R x) xs × Pairwise R xs

-- an item, with the stamp of the event that put it
pub record StampedItem (Item : Type 0) : Type 0 where
  pub stamp : ℕ
  pub item : Item

-- an event with its stamp; the item that it puts or takes has one too
pub record Stamped (Own Item Offer : Type 0) : Type 0 where
  pub stamp : ℕ
  pub event : NetworkEvent Own (StampedItem Item) Offer

-- an offer as the collector has it: its stamp, its router and what it says
pub record Collected (Offer : Type 0) : Type 0 where
  pub stamp : ℕ
  pub router : ℕ
  pub offer : Offer

abbrev pub offers_on : {Offer : Type 0} → List (Collected Offer) → List Offer
offers_on board = map (λ o. o.offer) board

module _ {Own Item Offer : Type 0} where
  -- the events of a stamped list
  abbrev pub events_in : List (Stamped Own Item Offer) → Order Own (StampedItem Item) Offer
  events_in [] = []
  events_in (m ∷ ms) = m.event ∷ events_in ms

  -- an item put carries the stamp of its put, and a take's stamp is above its item's
  abbrev pub FitsItem : ℕ → Event Own (StampedItem Item) Offer → Type 0
  FitsItem stamp (puts to x) = x.stamp ≡ stamp
  FitsItem stamp (takes from x) = x.stamp < stamp
  FitsItem stamp (alone e) = Unit {0}
  FitsItem stamp (offers o) = Unit {0}

  -- the offers among the events, with their stamps
  abbrev pub collected_by : ℕ → ℕ → Event Own (StampedItem Item) Offer → List (Collected Offer)
  collected_by stamp u (offers o) = record { stamp = stamp; router = u; offer = o } ∷ []
  collected_by stamp u (alone e) = []
  collected_by stamp u (puts to x) = []
  collected_by stamp u (takes from x) = []

  abbrev pub stamped_offers : List (Stamped Own Item Offer) → List (Collected Offer)
  stamped_offers [] = []
  stamped_offers (m ∷ ms) = collected_by m.stamp m.event.router m.event.event ++ stamped_offers ms

  -- an event without the stamp of its item; then journals and stamped lists without them
  abbrev pub without_stamp : Event Own (StampedItem Item) Offer → Event Own Item Offer
  without_stamp (puts to x) = puts to x.item
  without_stamp (takes from x) = takes from x.item
  without_stamp (alone e) = alone e
  without_stamp (offers o) = offers o

  abbrev pub without_stamps : Journal Own (StampedItem Item) Offer → Journal Own Item Offer
  without_stamps es = map without_stamp es

  abbrev pub order_of : List (Stamped Own Item Offer) → Order Own Item Offer
  order_of [] = []
  order_of (m ∷ ms) = record { router = m.event.router; event = without_stamp m.event.event } ∷ order_of ms

-- in each direction the items taken are the first of those put, one after another
abbrev pub TakesBeginPuts : {Own Item Offer : Type 0} → (ℕ → Journal Own Item Offer) → Type 0
TakesBeginPuts journal = (u v : ℕ) → IsPrefix (takes_from u (journal v)) (puts_towards v (journal u))

-- journals, put into one order by stamps: each journal's events in its order and no others, stamps that rise and fit the
-- items, and items that were taken as they were put
pub record IsStampedOrder (Own Item Offer : Type 0) (journal : ℕ → Journal Own (StampedItem Item) Offer) (ms : List (Stamped Own Item Offer))
    : Type 0 where
  pub journals : (u : ℕ) → events_of u (events_in ms) ≡ journal u
  pub rise : IsNonDecreasingBy (λ m. m.stamp) ms
  pub fit : All (λ m. FitsItem m.stamp m.event.event) ms
  pub in_turn : TakesBeginPuts journal

-- an order by stamps is a causal one
abbrev pub StampsGiveCausalOrders : (Own Item Offer : Type 0) → Type 0
StampsGiveCausalOrders Own Item Offer =
    (journal : ℕ → Journal Own (StampedItem Item) Offer) (ms : List (Stamped Own Item Offer))
    → IsStampedOrder Own Item Offer journal ms
    → IsCausalOrder (λ u. without_stamps (journal u)) (offers_on (stamped_offers ms)) (order_of ms)

-- the collector's stamps rise, one above the other, and it has of each router the offers that stand in the order of
-- stamps: then it has them all in that order
abbrev pub StampsGiveTheCollectorsOrder : (Own Item Offer : Type 0) → Type 0
StampsGiveTheCollectorsOrder Own Item Offer =
    (board : List (Collected Offer)) (ms : List (Stamped Own Item Offer))
    → IsNonDecreasingBy (λ m. m.stamp) ms → Pairwise (λ a b. a.stamp < b.stamp) board
    → ((u : ℕ) → filter (λ o. o.router == u) (stamped_offers ms) ≡ filter (λ o. o.router == u) board)
    → stamped_offers ms ≡ board

-- the journals of threads, put together: without stamps they are a causal order with the collector's offers, and a run
-- to the journals' last states
abbrev pub ThreadsAreARun : {State Own Item Offer : Type 0} → Steps State Own Item Offer → Type 0
ThreadsAreARun {State} {Own} {Item} {Offer} step =
    (start finish : ℕ → State) (journal : ℕ → Journal Own (StampedItem Item) Offer)
    (board : List (Collected Offer)) (ms : List (Stamped Own Item Offer))
    → ((u : ℕ) → IsJournal step u (start u) (without_stamps (journal u)) (finish u))
    → IsStampedOrder Own Item Offer journal ms
    → stamped_offers ms ≡ board
    → IsCausalOrder (λ u. without_stamps (journal u)) (offers_on board) (order_of ms)
    × Run step (opening start) (order_of ms) (closing finish (offers_on board) (order_of ms))

-- without stamps a journal puts and takes the same items
abbrev pub StampsChangeNoItem : (Own Item Offer : Type 0) → Type 0
StampsChangeNoItem Own Item Offer =
    (u : ℕ) (es : Journal Own (StampedItem Item) Offer)
    → (puts_towards u (without_stamps es) ≡ map (λ x. x.item) (puts_towards u es))
    × (takes_from u (without_stamps es) ≡ map (λ x. x.item) (takes_from u es))
