-- A network of routers that pass items to one another, each direction of a link first in, first out, and make offers to
-- one collector. Each step of the network is a step of one router (Chandy and Lamport 1985: an event of one process, and
-- the state of at most one channel).
use Rattle.std.specs.Prelude.{◌≡◌, ℕ, ◌==◌, if◌then◌else◌, List, [], ◌∷◌, ◌++◌, length, slice_get, Some}
use mathlib.Core.List.{IsPrefix}

-- an event of a router: a step of its own, one item put towards a peer, one taken from a peer, or one offer made
pub data Event (Own Item Offer : Type 0) : Type 0 where
  alone : Own → Event Own Item Offer
  puts : (to : ℕ) → Item → Event Own Item Offer
  takes : (from : ℕ) → Item → Event Own Item Offer
  offers : Offer → Event Own Item Offer

-- an event, and the router that does it
pub record NetworkEvent (Own Item Offer : Type 0) : Type 0 where
  pub router : ℕ
  pub event : Event Own Item Offer

-- a journal is the events of one router, first to last; an order is the events of a network, first to last
abbrev pub Journal : Type 0 → Type 0 → Type 0 → Type 0
Journal Own Item Offer = List (Event Own Item Offer)

abbrev pub Order : Type 0 → Type 0 → Type 0 → Type 0
Order Own Item Offer = List (NetworkEvent Own Item Offer)

-- how router u goes from one of its states to another by an event; it speaks of that router alone
abbrev pub Steps : Type 0 → Type 0 → Type 0 → Type 0 → Type 1
Steps State Own Item Offer = ℕ → State → Event Own Item Offer → State → Type 0

module _ {Own Item Offer : Type 0} where
  -- the item that an event puts towards v, if it does
  abbrev pub put_towards : ℕ → Event Own Item Offer → List Item
  put_towards v (puts to x) = if to == v then x ∷ [] else []
  put_towards v (alone e) = []
  put_towards v (takes from x) = []
  put_towards v (offers o) = []

  -- the item that an event takes from u, if it does
  abbrev pub taken_from : ℕ → Event Own Item Offer → List Item
  taken_from u (takes from x) = if from == u then x ∷ [] else []
  taken_from u (alone e) = []
  taken_from u (puts to x) = []
  taken_from u (offers o) = []

  -- the offer that an event makes, if it does
  abbrev pub offered_by : Event Own Item Offer → List Offer
  offered_by (offers o) = o ∷ []
  offered_by (alone e) = []
  offered_by (puts to x) = []
  offered_by (takes from x) = []

  -- the item that an event puts in the direction from u to v, and the item that it takes from there
  abbrev pub put_between : ℕ → ℕ → NetworkEvent Own Item Offer → List Item
  put_between u v d = if d.router == u then put_towards v d.event else []

  abbrev pub taken_between : ℕ → ℕ → NetworkEvent Own Item Offer → List Item
  taken_between u v d = if d.router == v then taken_from u d.event else []

  -- the items that a list of events puts in a direction, and takes from it, first to last
  abbrev pub puts_in : ℕ → ℕ → Order Own Item Offer → List Item
  puts_in u v [] = []
  puts_in u v (d ∷ ds) = put_between u v d ++ puts_in u v ds

  abbrev pub takes_in : ℕ → ℕ → Order Own Item Offer → List Item
  takes_in u v [] = []
  takes_in u v (d ∷ ds) = taken_between u v d ++ takes_in u v ds

  abbrev pub offers_in : Order Own Item Offer → List Offer
  offers_in [] = []
  offers_in (d ∷ ds) = offered_by d.event ++ offers_in ds

-- a state of the network: each router's, the items put in each direction and those taken from it, and the offers made
pub record NetworkState (State Item Offer : Type 0) : Type 0 where
  pub routers : ℕ → State
  pub put : ℕ → ℕ → List Item  -- from, towards
  pub taken : ℕ → ℕ → List Item
  pub offered : List Offer

-- nothing was put, taken or offered yet
abbrev pub opening : {State Item Offer : Type 0} → (ℕ → State) → NetworkState State Item Offer
opening start = record { routers = start; put = λ u v. []; taken = λ u v. []; offered = [] }

module _ {State Own Item Offer : Type 0} (step : Steps State Own Item Offer) where
  -- the network after an event that leaves its router in the given state
  abbrev pub after : NetworkState State Item Offer → NetworkEvent Own Item Offer
      → State → NetworkState State Item Offer
  after old d own =
      record {
        routers = λ u. if d.router == u then own else old.routers u;
        put = λ u v. old.put u v ++ put_between u v d;
        taken = λ u v. old.taken u v ++ taken_between u v d;
        offered = old.offered ++ offered_by d.event;
      }

  -- one router's step, and what it leaves in the network
  abbrev pub IsRoutersStep : NetworkState State Item Offer → NetworkEvent Own Item Offer
      → NetworkState State Item Offer → Type 0
  IsRoutersStep old d new = (own : State) × step d.router (old.routers d.router) d.event own × (new ≡ after old d own)

  -- a step of the network: one router's step, and what was taken from a direction is a beginning of what was put in it
  abbrev pub NetworkStep : NetworkState State Item Offer → NetworkEvent Own Item Offer
      → NetworkState State Item Offer → Type 0
  NetworkStep old d new =
      (own : State) × step d.router (old.routers d.router) d.event own × (new ≡ after old d own)
      × ((u v : ℕ) → IsPrefix (new.taken u v) (new.put u v))

  -- a run: events that lead from one state of the network to another by its steps
  abbrev pub Run : NetworkState State Item Offer → Order Own Item Offer → NetworkState State Item Offer → Type 0
  Run old [] new = old ≡ new
  Run old (d ∷ ds) new = (next : NetworkState State Item Offer) × NetworkStep old d next × Run next ds new

-- a take gets the item behind those that were taken from its direction before; other events get nothing
abbrev pub GetsTheNext : {State Own Item Offer : Type 0}
    → NetworkState State Item Offer → ℕ → Event Own Item Offer → Type 0
GetsTheNext old v (takes u x) = slice_get (old.put u v) (length (old.taken u v)) ≡ Some x
GetsTheNext old v (alone e) = Unit {0}
GetsTheNext old v (puts w x) = Unit {0}
GetsTheNext old v (offers o) = Unit {0}

-- where no more was taken than put, a step of the network is one router's step whose take, if it is one, gets the next item
abbrev pub StepsAreTakesInOrder : {State Own Item Offer : Type 0} → Steps State Own Item Offer → Type 0
StepsAreTakesInOrder {State} {Own} {Item} {Offer} step =
    (old new : NetworkState State Item Offer) (d : NetworkEvent Own Item Offer)
    → ((u v : ℕ) → IsPrefix (old.taken u v) (old.put u v))
    → (NetworkStep step old d new → IsRoutersStep step old d new × GetsTheNext old d.router d.event)
    × (IsRoutersStep step old d new → GetsTheNext old d.router d.event → NetworkStep step old d new)
