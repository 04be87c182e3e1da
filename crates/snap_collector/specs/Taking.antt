-- How an offer changes a collector, and how it is answered.
use Rattle.std.specs.Prelude.{◌≡◌, Bool, true, false, cond, [], ◌∷◌, map, Option, None, Some, Result, Ok, Err}
use Rattle.snap_marker.specs.declared.part.Offer.{Offer}
use Rattle.snap_marker.specs.Parts.{router_of, number_of}
use Rattle.snap_collector.specs.declared.answer.Taken.{Taken}
use Rattle.snap_collector.specs.declared.answer.Taken.TheVariants as taken
use Rattle.snap_collector.specs.declared.answer.CollectError.{CollectError}
use Rattle.snap_collector.specs.declared.answer.CollectError.TheVariants as refusal
use Rattle.snap_collector.specs.Verdicts.{decides, is_member}
use Rattle.snap_collector.specs.Collecting.{member_of, made_by, has_offered}
use Rattle.snap_collector.specs.Collector.{CollectorView, made_for, with_offers}

-- the offer is of a router of the network
abbrev pub knows : CollectorView → Offer → Bool
knows c o = is_member (map member_of c.members) (router_of o)

-- the offers for the number of this one decide
abbrev pub has_decided : CollectorView → Offer → Bool
has_decided c o = decides (map member_of c.members) (made_for c (number_of o))

-- the router of the offer has offered for its number
abbrev pub has_heard : CollectorView → Offer → Bool
has_heard c o = has_offered (made_for c (number_of o)) (router_of o)

-- a router of the network offers for the first time for a snapshot that waits
pub record IsNew (c : CollectorView) (o : Offer) : Type 0 where
  pub known : knows c o ≡ true
  pub waits : has_decided c o ≡ false
  pub first : has_heard c o ≡ false

-- why an offer is refused whatever room there is: it is a stranger's, or a second one for a snapshot that waits
abbrev pub refusal_of : CollectorView → Offer → Option CollectError
refusal_of c o =
    cond (knows c o)
    (cond (has_decided c o) None (cond (has_heard c o) (Some (refusal.Twice (router_of o))) None))
    (Some (refusal.Stranger (router_of o)))

-- the offer stands behind those of its number
pub record Keeps (old new : CollectorView) (o : Offer) (decided : Bool) : Type 0 where
  pub news : IsNew old o
  pub made : made_for new ≡ with_offers (made_for old) (made_by o ∷ [])
  pub members : new.members ≡ old.members
  pub decides : has_decided new o ≡ decided

-- an offer was made: a stranger is refused first, then it is late, then a second offer is refused, and memory last
abbrev pub Takes : CollectorView → CollectorView → Offer → Result Taken CollectError → Type 0
Takes old new o (Ok taken.Kept) = Keeps old new o false
Takes old new o (Ok taken.Decided) = Keeps old new o true
Takes old new o (Ok taken.Late) = (knows old o ≡ true) × (has_decided old o ≡ true) × (new ≡ old)
Takes old new o (Err (refusal.Stranger u)) = (knows old o ≡ false) × (u ≡ router_of o) × (new ≡ old)
Takes old new o (Err (refusal.Twice u)) = (knows old o ≡ true) × (has_decided old o ≡ false) × (has_heard old o ≡ true) × (u ≡ router_of o) × (new ≡ old)
Takes old new o (Err refusal.Memory) = IsNew old o × (new ≡ old)
Takes old new o (Err refusal.StampEnd) = ⊥
