use Rattle.std.proofs.Common.{◌∙◌, ◌+◌, ◌≤◌, arith, vec_len, vec_capacity, ap, refl, ◌++◌, ◌∷◌, [], ℕ, ◌<◌, subst}
use Rattle.run_model.specs.Offers.{made_of}
use Rattle.snap_marker.specs.Recordings.{MadeOffer}
use Rattle.snap_marker.specs.Parts.{offer_of}
use Rattle.world_core.specs.declared.schedule.Event.TheVariants.{Offer}
use Rattle.worker_loop.specs.Acts.{with_offer}
use Rattle.worker_loop.specs.Whole.{entry}
use Rattle.worker_loop.proofs.Ending.{with_room, has_room, on_err}
use Rattle.worker_loop.proofs.Trying.{offer_did}
use Rattle.worker_loop.proofs.worker.Worker.try_offer.Goals as goal

pub note-requires : goal.note-requires
note-requires g c =
    let full = has_room c.reserve-room.result c.in_ok-stamp.ensures.full in
    let fits : vec_len c.reserve-room.new.self + 1 ≤ vec_capacity c.reserve-room.new.self = with_room c.reserve-room.result _ full c.reserve-room.ensures.ok in
    omega (arith, fits)

pub returns-clause-done : goal.returns-clause-done
returns-clause-done g c =
    let u = c.args.self.now.router.number in
    let o = offer_of c.in-Some.offer.now in
    let stamp = c.in_ok-stamp.stamp in
    let made = ap (λ (n : ℕ). made_of n o) c.in-Some.ensures.1 in
    λ k net set. offer_did k u stamp _ _ o c.in-Some.ensures.0
    (subst (λ (n : ℕ). n < stamp) c.stamp.ensures c.in_ok-stamp.ensures.later) c.offer_made.ensures.made refl refl refl
    (c.in_ok-stamp.ensures.made ∙ ap (λ (m : MadeOffer). with_offer (g.D.Desk.made c.args.self.now.desk) stamp m) made)
    (c.note.ensures ∙ ap (λ l. l ++ entry stamp (Offer c.number.result) ∷ []) c.reserve-room.ensures.items
    ∙ ap (λ (n : ℕ). c.args.self.now.journal.events.items ++ entry stamp (Offer n) ∷ []) (c.number.ensures ∙ c.offer_made.ensures.same.number))

pub returns-in_err-stamp-clause-ended : goal.returns-in_err-stamp-clause-ended
returns-in_err-stamp-clause-ended g c = on_err c.from_residual.result _ (c.in-Some.offer.now, c.in-Some.ensures)
