use Rattle.std.proofs.Common.{◌∙◌}
use Rattle.router_model.specs.Calls.{Handle}
use Rattle.worker_loop.specs.Following.{Calls, Puts, Takes, Then}
use Rattle.worker_loop.proofs.Chaining.{did_at, did_then, peer_stays, pipe_stays, later_still}
use Rattle.worker_loop.proofs.worker.Worker.meet.Goals as goal

pub try_take-requires-clause-stands : goal.try_take-requires-clause-stands
try_take-requires-clause-stands g c = peer_stays g.L.Pipes.wiring _ _ c.in_ok-try_put.ensures.same.later c.args.peer_at c.args.peer c.requires.stands

pub try_take-requires-clause-pipes : goal.try_take-requires-clause-pipes
try_take-requires-clause-pipes g c = pipe_stays g.L.Pipes.stands g.L.Pipes.wiring _ _ c.in_ok-try_put.ensures.same.later c.args.peer_at c.args.peer c.requires.pipes

pub try_handle-requires : goal.try_handle-requires
try_handle-requires g c =
    record { stands = peer_stays g.L.Pipes.wiring _ _ (later_still g.L.Pipes.wiring _ _ _ c.in_ok-try_put.ensures.same c.in_ok-try_take.ensures.same).later c.args.peer_at c.args.peer c.requires.stands }

pub returns-clause-done : goal.returns-clause-done
returns-clause-done g c =
    let u = c.args.self.now.router.number in
    let net = c.args.self.now.router.net in
    let v = c.args.peer in
    let p = c.in_ok-try_put.ensures in
    let t = c.in_ok-try_take.ensures in
    let h = c.in_ok-try_handle.ensures in
    did_then (λ k. Puts k u v) (λ k. Then (Takes k u v) (Calls k u (Handle v))) net _ _ _ p.done
    (did_then (λ k. Takes k u v) (λ k. Calls k u (Handle v)) net _ _ _
    (did_at (λ n k. Takes k n v) net _ u _ _ _ p.same.later.net p.same.later.number t.done)
    (did_at (λ n k. Calls k n (Handle v)) net _ u _ _ _ (t.same.later.net ∙ p.same.later.net) (t.same.later.number ∙ p.same.later.number) h.done))
