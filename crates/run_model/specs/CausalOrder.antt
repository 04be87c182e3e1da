-- Orders of the events of a network that respect cause and effect (Lamport 1978, "happened before").
use Rattle.std.specs.Prelude.{◌≡◌, ℕ, List, ◌∷◌, ◌++◌, length, slice_get, Some}
use mathlib.Core.List.{IsPrefix}
use Rattle.run_model.specs.Network.{Order, Journal, Steps, NetworkState, takes, puts_in, takes_in, offers_in, opening, Run}
use Rattle.run_model.specs.Journals.{puts_towards, takes_from, events_of, IsJournal}

module _ {Own Item Offer : Type 0} where
  -- in every beginning of the order, what was taken from a direction is a beginning of what was put in it: the k-th take
  -- of a direction has the item of its k-th put, and stands after it
  abbrev pub IsCausal : Order Own Item Offer → Type 0
  IsCausal order =
      (u v : ℕ) (front rest : Order Own Item Offer) → order ≡ front ++ rest → IsPrefix (takes_in u v front) (puts_in u v front)

  -- causal, take by take: where router v takes its k-th item from u, the k-th item of that direction was put before,
  -- and it is the same item
  abbrev pub EachTakeHasItsPut : Order Own Item Offer → Type 0
  EachTakeHasItsPut order =
      (u v : ℕ) (x : Item) (front rest : Order Own Item Offer)
      → order ≡ front ++ record { router = v; event = takes u x } ∷ rest
      → slice_get (puts_in u v front) (length (takes_in u v front)) ≡ Some x

  -- a causal order of journals: each router's events are its journal, and the offers stand as they were collected
  pub record IsCausalOrder (journal : ℕ → Journal Own Item Offer) (collected : List Offer) (order : Order Own Item Offer)
      : Type 0 where
    pub journals : (u : ℕ) → events_of u order ≡ journal u
    pub causal : IsCausal order
    pub collected_so : offers_in order ≡ collected

-- the state that the events leave: the routers' last states, the items that they put and took, the offers collected
abbrev pub closing : {State Own Item Offer : Type 0}
    → (ℕ → State) → List Offer → Order Own Item Offer → NetworkState State Item Offer
closing finish collected order =
    record {
      routers = finish;
      put = λ u v. puts_in u v order;
      taken = λ u v. takes_in u v order;
      offered = collected;
    }

-- every causal order of journals is a run, and ends in the journals' last states
abbrev pub CausalOrdersAreRuns : {State Own Item Offer : Type 0} → Steps State Own Item Offer → Type 0
CausalOrdersAreRuns {State} {Own} {Item} {Offer} step =
    (start finish : ℕ → State) (journal : ℕ → Journal Own Item Offer) (collected : List Offer)
    (order : Order Own Item Offer)
    → ((u : ℕ) → IsJournal step u (start u) (journal u) (finish u))
    → IsCausalOrder journal collected order
    → Run step (opening start) order (closing finish collected order)

-- the state that journals leave, whatever order their events had
abbrev pub left_by : {State Own Item Offer : Type 0}
    → (ℕ → State) → (ℕ → Journal Own Item Offer) → List Offer → NetworkState State Item Offer
left_by finish journal collected =
    record {
      routers = finish;
      put = λ u v. puts_towards v (journal u);
      taken = λ u v. takes_from u (journal v);
      offered = collected;
    }

-- causal orders of the same journals and offers end in one state
abbrev pub CausalOrdersEndAlike : (State Own Item Offer : Type 0) → Type 0
CausalOrdersEndAlike State Own Item Offer =
    (finish : ℕ → State) (journal : ℕ → Journal Own Item Offer) (collected : List Offer) (order : Order Own Item Offer)
    → IsCausalOrder journal collected order → closing finish collected order ≡ left_by finish journal collected

-- `IsCausal` and `EachTakeHasItsPut` say the same
abbrev pub TakesHaveTheirPuts : (Own Item Offer : Type 0) → Type 0
TakesHaveTheirPuts Own Item Offer =
    (order : Order Own Item Offer) → (IsCausal order → EachTakeHasItsPut order) × (EachTakeHasItsPut order → IsCausal order)

-- a run from the opening is a causal order of its routers' journals
abbrev pub RunsAreCausalOrders : {State Own Item Offer : Type 0} → Steps State Own Item Offer → Type 0
RunsAreCausalOrders {State} {Own} {Item} {Offer} step =
    (start : ℕ → State) (order : Order Own Item Offer) (last : NetworkState State Item Offer)
    → Run step (opening start) order last
    → ((u : ℕ) → IsJournal step u (start u) (events_of u order) (last.routers u)) × IsCausal order
    × (last ≡ closing last.routers (offers_in order) order)
