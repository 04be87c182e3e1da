-- A put may change places with an event of its router before it.
use Rattle.std.specs.Prelude.{◌≡◌, ℕ, List, [], ◌∷◌, ◌++◌}
use Rattle.run_model.specs.Network.{Journal, Steps, Event, puts, put_towards}
use Rattle.run_model.specs.Journals.{puts_towards, IsJournal}

module _ {State Own Item Offer : Type 0} (step : Steps State Own Item Offer) where
  -- the items can be put towards v, one after another, with nothing in between
  abbrev pub CanPut : ℕ → State → ℕ → List Item → Type 0
  CanPut u old v [] = Unit {0}
  CanPut u old v (x ∷ xs) = (next : State) × step u old (puts v x) next × CanPut u next v xs

  -- a put leads to one state, and commutes with each event that could come in its place, unless that puts in the same
  -- direction
  pub record PutsCommute : Type 0 where
    pub one : (u v : ℕ) (x : Item) (old first second : State)
        → step u old (puts v x) first → step u old (puts v x) second → first ≡ second
    pub commute : (u v : ℕ) (x : Item) (e : Event Own Item Offer) (old done put : State)
        → put_towards v e ≡ [] → step u old e done → step u old (puts v x) put
        → (both : State) × step u done (puts v x) both × step u put e both

  -- the exchange: a put that was possible before some events of its router, none of which put in its direction, may come
  -- before them, and the journal leads to the same state
  abbrev pub PutsComeEarlier : Type 0
  PutsComeEarlier =
      PutsCommute → (u v : ℕ) (x : Item) (es rest : Journal Own Item Offer) (old new : State)
      → puts_towards v es ≡ [] → CanPut u old v (x ∷ [])
      → IsJournal step u old (es ++ puts v x ∷ rest) new → IsJournal step u old (puts v x ∷ (es ++ rest)) new
