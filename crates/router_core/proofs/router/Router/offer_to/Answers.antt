use Rattle.std.proofs.Common.{ℕ, ◌≡◌, List, [], ◌∷◌, map, sym, subst, arith}
use Rattle.std.specs.Prelude.{IfSome, Option, slice_get}
use Rattle.std.specs.List.{AllByRecursion}
use Rattle.run_model.specs.Offers.{made_of}
use Rattle.router_model.specs.Settings.{peers}
use Rattle.snap_marker.specs.declared.part.Offer.{Offer}
use Rattle.snap_marker.specs.declared.part.Part.{Part}
use Rattle.snap_marker.specs.Parts.{IsOver, offer_of, router_of}
use Rattle.snap_marker.specs.Recordings.{MadeOffer}
use Rattle.snap_collector.specs.Collecting.{made_by}
use Rattle.snap_collector.specs.Collector.{made_for, with_offers}
use Rattle.router_core.specs.Views.{view_of}
use Rattle.router_core.proofs.Marking.{same_become}
use Rattle.router_core.proofs.Snapshots.{Marks, same_alike, stays_sound}
use Rattle.router_core.proofs.router.Router.offer_to.Goals as goal

pub invariant_of-self-2 : goal.invariant_of-self-2
invariant_of-self-2 c =
    let r = view_of c.self.inside in
    let s = c.self.invariant in
    let m = c.record_from.new.marks in
    let marks : Marks r m =
    record {
      over = subst (λ (u : Option Part). IsOver (peers r.net r.number) u) (sym c.record_from.ensures.unfinished) s.marked.over;
      own = c.record_from.ensures.router r.number (record { unfinished = s.marked.unfinished; queue = s.marked.queue });
    } in
    stays_sound r r.peers m _ (λ x. x) same_alike (same_become r.peers) s (omega (arith, s.stamp, c.requires.few)) marks

-- the first of a router's own offers, as that of the router
by_router : (number : ℕ) (queue : List Offer) (P : MadeOffer → Type 0) → AllByRecursion (λ o. router_of o ≡ number) queue → IfSome (slice_get queue 0) (λ o. P (made_by o))
    → IfSome (slice_get (map offer_of queue) 0) (λ m. P (made_of number m))
by_router number [] P own h = h
by_router number (o ∷ os) P own h = subst (λ u. P (made_of u (offer_of o))) own.0 h

pub returns-clause-kept : goal.returns-clause-kept
returns-clause-kept c =
    rw (← c.self.view_is)
    (by_router c.self.inside.number c.self.inside.marks.queue (λ m. made_for c.record_from.new.self ≡ with_offers (made_for c.args.collector.now) (m ∷ [])) c.self.invariant.marked.queue
    c.in_ok-record_from.ensures.ok)
