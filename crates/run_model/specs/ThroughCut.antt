-- A run reordered so that it passes through a consistent cut (Chandy and Lamport 1985, theorem 1).
use Rattle.std.specs.Prelude.{◌≡◌, ℕ, ◌+◌, ◌==◌, ◌||◌, not, ltb, Bool, false, if◌then◌else◌, List, [], ◌∷◌, ◌++◌, length, take, drop, filter, All, ◌⊎◌}
use Rattle.std.specs.List.{sum_by}
use Rattle.run_model.specs.Network.{Order, Journal, Steps, Event, NetworkState, alone, puts, takes, offers, puts_in, takes_in, offers_in, opening, Run}
use Rattle.run_model.specs.Journals.{puts_towards, takes_from, offers_made, events_of, IsJournal}
use Rattle.run_model.specs.CausalOrder.{IsCausal, closing}
use Rattle.run_model.specs.Exchange.{CanPut, PutsCommute}

-- a list taken apart into two, each in its order
abbrev pub Interleaves : {A : Type 0} → List A → List A → List A → Type 0
Interleaves xs ys [] = (xs ≡ []) × (ys ≡ [])
Interleaves {A} xs ys (z ∷ zs) =
    ((rest : List A) × (xs ≡ z ∷ rest) × Interleaves rest ys zs) ⊎ ((rest : List A) × (ys ≡ z ∷ rest) × Interleaves xs rest zs)

module _ {Own Item Offer : Type 0} where
  -- the events of a router that pass a test, which sees its own events before
  abbrev pub chosen : (Journal Own Item Offer → Event Own Item Offer → Bool)
      → Journal Own Item Offer → Journal Own Item Offer → Journal Own Item Offer
  chosen test before [] = []
  chosen test before (e ∷ es) = (if test before e then e ∷ [] else []) ++ chosen test (before ++ e ∷ []) es

  -- the events of an order that pass a test, where each router has its own test
  abbrev pub selected : (ℕ → Journal Own Item Offer → Event Own Item Offer → Bool)
      → Order Own Item Offer → Order Own Item Offer → Order Own Item Offer
  selected test before [] = []
  selected test before (d ∷ ds) =
      (if test d.router (events_of d.router before) d.event then d ∷ [] else []) ++ selected test (before ++ d ∷ []) ds

  abbrev pub IsPut : Event Own Item Offer → Type 0
  IsPut e = (v : ℕ) × (x : Item) × (e ≡ puts v x)

  -- a put that is one of the first n of its direction
  abbrev pub is_early : (ℕ → ℕ) → Journal Own Item Offer → Event Own Item Offer → Bool
  is_early n before (puts v x) = ltb (length (puts_towards v before)) (n v)
  is_early n before (alone e) = false
  is_early n before (takes u x) = false
  is_early n before (offers o) = false

-- a cut: for each router, how many of its own first events are inside
module _ {Own Item Offer : Type 0} (cut : ℕ → ℕ) (order : Order Own Item Offer) where
  abbrev pub inside : ℕ → Journal Own Item Offer
  inside u = take (cut u) (events_of u order)

  abbrev pub outside : ℕ → Journal Own Item Offer
  outside u = drop (cut u) (events_of u order)

  -- how many items v took from u inside; a put is early where it is outside, and its item was taken inside
  abbrev pub needed : ℕ → ℕ → ℕ
  needed u v = length (takes_from u (inside v))

  -- of each router, its early puts, and its other events outside, each in its order
  abbrev pub early : ℕ → Journal Own Item Offer
  early u = chosen (is_early (needed u)) (inside u) (outside u)

  abbrev pub late : ℕ → Journal Own Item Offer
  late u = chosen (λ before e. not (is_early (needed u) before e)) (inside u) (outside u)

  -- the first part of the new order has the events that are inside or early, the second part the rest, each in the
  -- given order
  abbrev pub comes_first : ℕ → Journal Own Item Offer → Event Own Item Offer → Bool
  comes_first u before e = ltb (length before) (cut u) || is_early (needed u) before e

  abbrev pub first_part : Order Own Item Offer
  first_part = selected comes_first [] order

  abbrev pub second_part : Order Own Item Offer
  second_part = selected (λ u before e. not (comes_first u before e)) [] order

  -- the items that v took from u inside, and u put outside
  abbrev pub put_outside : ℕ → ℕ → List Item
  put_outside u v = drop (length (puts_towards v (inside u))) (takes_from u (inside v))

-- the same state with other offers
abbrev pub with_offers : {State Item Offer : Type 0} → NetworkState State Item Offer → List Offer → NetworkState State Item Offer
with_offers s os = record { routers = s.routers; put = s.put; taken = s.taken; offered = os }

module _ {State Own Item Offer : Type 0} (step : Steps State Own Item Offer) where
  -- the routers' states at a cut: the events inside lead each there, and those outside from there to its last state
  pub record IsCut (cut : ℕ → ℕ) (order : Order Own Item Offer) (start at finish : ℕ → State) : Type 0 where
    pub inside_leads : (u : ℕ) → IsJournal step u (start u) (inside cut order u) (at u)
    pub outside_leads : (u : ℕ) → IsJournal step u (at u) (outside cut order u) (finish u)

  -- a consistent cut: each item that was taken inside was appended inside, so that its router put it inside, or could put it
  -- at the cut
  pub record IsConsistentCut (cut : ℕ → ℕ) (order : Order Own Item Offer) (start at finish : ℕ → State) : Type 0 where
    pub states : IsCut cut order start at finish
    pub appended_inside : (u v : ℕ) → CanPut step u (at u) v (put_outside cut order u v)

  -- a run in two parts: the first ends where each router has done its events inside and its early puts, the second in the
  -- last state, but for the order of the offers
  pub record PassesThrough (cut : ℕ → ℕ) (order : Order Own Item Offer) (start at middle : ℕ → State)
      (last : NetworkState State Item Offer) : Type 0 where
    -- all events of the given order and no others, each part in that order
    pub parts : Interleaves (first_part cut order) (second_part cut order) order
    pub causal : IsCausal (first_part cut order ++ second_part cut order)
    -- of each router the events inside, then its early puts, then the rest
    pub inside_and_early : (u : ℕ) → events_of u (first_part cut order) ≡ inside cut order u ++ early cut order u
    pub the_rest : (u : ℕ) → events_of u (second_part cut order) ≡ late cut order u
    pub early_are_puts : (u : ℕ) → All IsPut (early cut order u)
    -- the routers at the end of the first part, and what was put and taken by then
    pub early_leads : (u : ℕ) → IsJournal step u (at u) (early cut order u) (middle u)
    pub taken : (u v : ℕ) → takes_in u v (first_part cut order) ≡ takes_from u (inside cut order v)
    pub put : (u v : ℕ)
        → puts_in u v (first_part cut order) ≡ puts_towards v (inside cut order u) ++ put_outside cut order u v
    pub to_the_cut :
        Run step (opening start) (first_part cut order)
        (closing middle (offers_in (first_part cut order)) (first_part cut order))
    pub from_the_cut :
        Run step (closing middle (offers_in (first_part cut order)) (first_part cut order)) (second_part cut order)
        (with_offers last (offers_in (first_part cut order ++ second_part cut order)))

  -- at each cut a run has its routers' states
  abbrev pub RunsHaveTheirCuts : Type 0
  RunsHaveTheirCuts =
      (cut : ℕ → ℕ) (order : Order Own Item Offer) (start : ℕ → State) (last : NetworkState State Item Offer)
      → Run step (opening start) order last
      → (at : ℕ → State) × IsCut cut order start at last.routers

  -- every run passes through each consistent cut, reordered so
  abbrev pub RunsPassThroughCuts : Type 0
  RunsPassThroughCuts =
      (cut : ℕ → ℕ) (order : Order Own Item Offer) (start at : ℕ → State) (last : NetworkState State Item Offer)
      → PutsCommute step → Run step (opening start) order last → IsConsistentCut cut order start at last.routers
      → (middle : ℕ → State) × PassesThrough cut order start at middle last

-- offers of a kind that no router made inside stand as they stood
abbrev pub OffersStand : (Own Item Offer : Type 0) → Type 0
OffersStand Own Item Offer =
    (cut : ℕ → ℕ) (order : Order Own Item Offer) (kind : Offer → Bool)
    → ((u : ℕ) → filter kind (offers_made (inside cut order u)) ≡ [])
    → filter kind (offers_in (first_part cut order ++ second_part cut order)) ≡ filter kind (offers_in order)

-- each event's router stands among these once
abbrev pub StandOnce : {Own Item Offer : Type 0} → List ℕ → Order Own Item Offer → Type 0
StandOnce routers order = All (λ d. length (filter (λ u. u == d.router) routers) ≡ 1) order

-- the first part is as long as all that is inside, and the early puts; the two are as long as the order
abbrev pub PartsAreAsLong : (Own Item Offer : Type 0) → Type 0
PartsAreAsLong Own Item Offer =
    (cut : ℕ → ℕ) (order : Order Own Item Offer) (routers : List ℕ) → StandOnce routers order
    → (length (first_part cut order)
    ≡ sum_by (λ u. length (inside cut order u)) routers + sum_by (λ u. length (early cut order u)) routers)
    × (length (first_part cut order) + length (second_part cut order) ≡ length order)
