-- A put moves before events of its router that put nothing in its direction.
use Rattle.std.proofs.Common.{◌≡◌, ℕ, List, [], ◌∷◌, ◌++◌, subst}
use Rattle.run_model.specs.Network.{Journal, Steps, Event, puts, put_towards}
use Rattle.run_model.specs.Journals.{puts_towards, IsJournal}
use Rattle.run_model.specs.Exchange.{CanPut, PutsCommute, PutsComeEarlier}
use Rattle.run_model.proofs.Beginnings.{both_empty}

module _ {State Own Item Offer : Type 0} (step : Steps State Own Item Offer) where
  -- what can be put can still be put after an event that puts nothing in that direction
  pub can_still : PutsCommute step → (u v : ℕ) (xs : List Item) (e : Event Own Item Offer) (old done : State) → put_towards v e ≡ [] → step u old e done
      → CanPut step u old v xs → CanPut step u done v xs
  can_still law u v [] e old done none did can = tt
  can_still law u v (x ∷ xs) e old done none did can =
      let both = law.commute u v x e old done can.0 none did can.1 in (both.0, both.1, can_still law u v xs e can.0 both.0 none both.2 can.2)

  -- where a put that is possible before an event is done after it, the two may change places
  pub swap : PutsCommute step → (u v : ℕ) (x : Item) (e : Event Own Item Offer) (old done new put : State) → put_towards v e ≡ [] → step u old e done → step u done (puts v x) new
      → step u old (puts v x) put → step u put e new
  swap law u v x e old done new put none did after can =
      let both = law.commute u v x e old done put none did can in
      subst (step u put e) (law.one u v x done both.0 new both.1 after) both.2

  earlier : PutsCommute step → (u v : ℕ) (x : Item) (es rest : Journal Own Item Offer) (old new : State) → puts_towards v es ≡ [] → CanPut step u old v (x ∷ [])
      → IsJournal step u old (es ++ puts v x ∷ rest) new → IsJournal step u old (puts v x ∷ (es ++ rest)) new
  earlier law u v x [] rest old new none can j = j
  earlier law u v x (e ∷ es) rest old new none can j =
      let each = both_empty (put_towards v e) (puts_towards v es) none in
      let later = earlier law u v x es rest j.0 new each.1 (can_still law u v (x ∷ []) e old j.0 each.0 j.1 can) j.2 in
      (can.0, can.1, (later.0, swap law u v x e old j.0 later.0 can.0 each.0 j.1 later.1 can.1, later.2))

  pub puts_come_earlier : PutsComeEarlier step
  puts_come_earlier law u v x es rest old new none can j = earlier law u v x es rest old new none can j
