-- What a collector makes of a copy of an offer it makes of the offer.
use Rattle.std.proofs.Common.{◌≡◌, ℕ, ◌∷◌, [], refl, sym, ap, ◌∙◌, map}
use Rattle.std.specs.Prelude.{Ok, Err, Result}
use Rattle.run_model.specs.Offers.{made_of}
use Rattle.run_model.specs.Offers as model
use Rattle.snap_marker.specs.Recordings.{RouterOffer}
use Rattle.snap_marker.specs.Parts.{router_of, number_of, offer_of}
use Rattle.snap_marker.specs.declared.part.Offer.{Offer}
use Rattle.snap_marker.specs.declared.part.Offer.TheVariants as offer
use Rattle.snap_collector.specs.declared.answer.Taken.{Taken}
use Rattle.snap_collector.specs.declared.answer.Taken.TheVariants as taken
use Rattle.snap_collector.specs.declared.answer.CollectError.{CollectError}
use Rattle.snap_collector.specs.declared.answer.CollectError.TheVariants as refusal
use Rattle.snap_collector.specs.Verdicts.{decides, is_member}
use Rattle.snap_collector.specs.Collecting.{made_by, member_of, has_offered}
use Rattle.snap_collector.specs.Collector.{CollectorView, made_for, with_offers}
use Rattle.snap_collector.specs.Taking.{Takes, IsNew, knows, has_decided, has_heard}

number_is : (o : Offer) → model.number_of (offer_of o) ≡ number_of o
number_is (offer.Part p) = refl
number_is (offer.Lost l) = refl

same_numbers : (p o : Offer) → offer_of p ≡ offer_of o → number_of p ≡ number_of o
same_numbers p o e = sym (number_is p) ∙ ap model.number_of e ∙ number_is o

module _ (p o : Offer) (router : router_of p ≡ router_of o) (number : number_of p ≡ number_of o) (made : made_by p ≡ made_by o) where
  known_by : (c : CollectorView) → knows c o ≡ knows c p
  known_by c = ap (is_member (map member_of c.members)) (sym router)

  decided_by : (c : CollectorView) → has_decided c o ≡ has_decided c p
  decided_by c = ap (λ n. decides (map member_of c.members) (made_for c n)) (sym number)

  heard_by : (c : CollectorView) → has_heard c o ≡ has_heard c p
  heard_by c = ap (λ n. has_offered (made_for c n) (router_of o)) (sym number) ∙ ap (has_offered (made_for c (number_of p))) (sym router)

  new_by : (c : CollectorView) → IsNew c p → IsNew c o
  new_by c h = record { known = known_by c ∙ h.known; waits = decided_by c ∙ h.waits; first = heard_by c ∙ h.first }

  takes_by : (c d : CollectorView) (r : Result Taken CollectError) → Takes c d p r → Takes c d o r
  takes_by c d (Ok taken.Kept) h = record {
    news = new_by c h.news;
    made = h.made ∙ ap (λ m. with_offers (made_for c) (m ∷ [])) made;
    members = h.members;
    decides = decided_by d ∙ h.decides;
  }
  takes_by c d (Ok taken.Decided) h = record {
    news = new_by c h.news;
    made = h.made ∙ ap (λ m. with_offers (made_for c) (m ∷ [])) made;
    members = h.members;
    decides = decided_by d ∙ h.decides;
  }
  takes_by c d (Ok taken.Late) h = (known_by c ∙ h.0, decided_by c ∙ h.1, h.2)
  takes_by c d (Err (refusal.Stranger u)) h = (known_by c ∙ h.0, h.1 ∙ router, h.2)
  takes_by c d (Err (refusal.Twice u)) h = (known_by c ∙ h.0, decided_by c ∙ h.1, heard_by c ∙ h.2, h.3 ∙ router, h.4)
  takes_by c d (Err refusal.Memory) h = (new_by c h.0, h.1)
  takes_by c d (Err refusal.StampEnd) h = h

pub made_alike : (p o : Offer) → router_of p ≡ router_of o → offer_of p ≡ offer_of o → made_by p ≡ made_by o
made_alike p o router says = ap (λ (n : ℕ). made_of n (offer_of p)) router ∙ ap (λ (k : RouterOffer). made_of (router_of o) k) says

pub takes_the_copied : (p o : Offer) → router_of p ≡ router_of o → offer_of p ≡ offer_of o → (c d : CollectorView) (r : Result Taken CollectError) → Takes c d p r → Takes c d o r
takes_the_copied p o router says c d r h = takes_by p o router (same_numbers p o says) (made_alike p o router says) c d r h
