use Rattle.std.proofs.Common.{◌∙◌}
use Rattle.router_model.specs.Calls.{Decide, Advertise}
use Rattle.worker_loop.specs.Following.{Then, Each, Meets, Calls, Offers}
use Rattle.worker_loop.specs.Whole.{peers_of}
use Rattle.worker_loop.proofs.Chaining.{did_at, did_then}
use Rattle.worker_loop.proofs.worker.Worker.turn.Goals as goal

pub returns-clause-done : goal.returns-clause-done
returns-clause-done g c =
    let u = c.args.self.now.router.number in
    let net = c.args.self.now.router.net in
    let peers = peers_of c.args.self.now in
    let m = c.in_ok-meet_all.ensures in
    let d = c.in_ok-try_call.ensures in
    let a = c.in_ok-try_call-2.ensures in
    let o = c.in_ok-try_offer.ensures in
    did_then (λ k. Each (Meets k u) peers) (λ k. Then (Calls k u Decide) (Then (Calls k u Advertise) (Offers k u))) net _ _ _ m.done
    (did_then (λ k. Calls k u Decide) (λ k. Then (Calls k u Advertise) (Offers k u)) net _ _ _
    (did_at (λ n k. Calls k n Decide) net _ u _ _ _ m.same.later.net m.same.later.number d.done)
    (did_then (λ k. Calls k u Advertise) (λ k. Offers k u) net _ _ _
    (did_at (λ n k. Calls k n Advertise) net _ u _ _ _ (d.same.later.net ∙ m.same.later.net) (d.same.later.number ∙ m.same.later.number) a.done)
    (did_at (λ n k. Offers k n) net _ u _ _ _ (a.same.later.net ∙ d.same.later.net ∙ m.same.later.net) (a.same.later.number ∙ d.same.later.number ∙ m.same.later.number) o.done)))
