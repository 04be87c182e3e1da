-- What one router did, read alone.
use Rattle.std.specs.Prelude.{◌≡◌, ℕ, ◌==◌, if◌then◌else◌, List, [], ◌∷◌, ◌++◌}
use Rattle.run_model.specs.Network.{Order, Journal, Steps, NetworkEvent, put_towards, taken_from, offered_by}

module _ {Own Item Offer : Type 0} where
  -- a journal's puts towards v, and its takes from u, first to last
  abbrev pub puts_towards : ℕ → Journal Own Item Offer → List Item
  puts_towards v [] = []
  puts_towards v (e ∷ es) = put_towards v e ++ puts_towards v es

  abbrev pub takes_from : ℕ → Journal Own Item Offer → List Item
  takes_from u [] = []
  takes_from u (e ∷ es) = taken_from u e ++ takes_from u es

  -- the offers that a journal makes, first to last
  abbrev pub offers_made : Journal Own Item Offer → List Offer
  offers_made [] = []
  offers_made (e ∷ es) = offered_by e ++ offers_made es

  -- the events of router u, in their order
  abbrev pub event_of : ℕ → NetworkEvent Own Item Offer → Journal Own Item Offer
  event_of u d = if d.router == u then d.event ∷ [] else []

  abbrev pub events_of : ℕ → Order Own Item Offer → Journal Own Item Offer
  events_of u [] = []
  events_of u (d ∷ ds) = event_of u d ++ events_of u ds

-- a journal: events that lead router u from one of its states to another by its own steps
abbrev pub IsJournal : {State Own Item Offer : Type 0} → Steps State Own Item Offer
    → ℕ → State → Journal Own Item Offer → State → Type 0
IsJournal step u old [] new = old ≡ new
IsJournal {State} step u old (e ∷ es) new = (next : State) × step u old e next × IsJournal step u next es new
