use Rattle.std.proofs.Common.{◌+◌, ◌∙◌, ◌≡◌, ℕ, List, arith, length, take, ap, sym, subst, ◌≤◌, Some}
use Rattle.std.specs.Prelude.{slice_get}
use Rattle.std.proofs.lemmas.List.{take_all}
use Rattle.std.proofs.lemmas.Option.{slice_get_within, get_or_from_slice_get}
use Rattle.worker_loop.specs.Following.{Meets}
use Rattle.worker_loop.specs.Whole.{peers_of}
use Rattle.worker_loop.specs.Ending.{EndsMeet}
use Rattle.worker_loop.proofs.Ending.{if_err, peer_there}
use Rattle.worker_loop.proofs.Chaining.{did_at, did_more, did_of, next_of, none_behind, all_below, later_still, same_peers, pipes_stay}
use Rattle.worker_loop.proofs.worker.Worker.meet_all.Goals as goal

pub loop-peer_at-preserved : goal.loop-peer_at-preserved
loop-peer_at-preserved g c =
    let u = c.args.self.now.router.number in
    let net = c.args.self.now.router.net in
    let peers = peers_of c.args.self.now in
    let l = c.loop-peer_at in
    let v = c.in-Some.peer in
    let m = c.in_ok-meet-in-Some.ensures in
    let same = l.invariant.same.later in
    let at = ap (λ (ns : List ℕ). slice_get ns l.peer_at) (sym (same_peers _ _ _ same)) ∙ sym c.in-Some.ensures in
    record {
      met = did_more (λ k w. Meets k u w) net (take l.peer_at peers) (take (l.peer_at + 1) peers) v _ _ _ (next_of peers l.peer_at v at) l.invariant.met
          (did_at (λ n k. Meets k n v) net _ u _ _ _ same.net same.number m.done);
      same = later_still _ _ _ _ l.invariant.same m.same;
    }

pub meet-requires-clause-pipes : goal.meet-requires-clause-pipes
meet-requires-clause-pipes g c = pipes_stay g.L.Pipes.stands g.L.Pipes.wiring _ _ c.loop-peer_at.invariant.same.later c.requires.pipes c.loop-peer_at.peer_at c.in-Some.peer (sym c.in-Some.ensures)

pub returns-in-None-clause-done : goal.returns-in-None-clause-done
returns-in-None-clause-done g c =
    let l = c.loop-peer_at in
    let peers = peers_of c.args.self.now in
    let none = ap (λ (ns : List ℕ). slice_get ns l.peer_at) (sym (same_peers _ _ _ l.invariant.same.later)) ∙ sym c.in-None.ensures in
    did_of (λ k v. Meets k c.args.self.now.router.number v) c.args.self.now.router.net (take l.peer_at peers) peers _ _ (take_all l.peer_at peers (none_behind peers l.peer_at none)) l.invariant.met

pub returns-clause-done : goal.returns-clause-done
returns-clause-done g c =
    let l = c.loop-peer_at in
    let peers = peers_of c.args.self.now in
    let far : length peers ≤ l.peer_at = all_below peers l.peer_at (λ k v at. (let below = c.places-peer_at-end.ensures k v (c.requires.pipes k v at) in omega (arith, below, c.loop-peer_at-test.false))) in
    did_of (λ k v. Meets k c.args.self.now.router.number v) c.args.self.now.router.net (take l.peer_at peers) peers _ _ (take_all l.peer_at peers far) l.invariant.met

pub returns-in_err-meet-in-Some-clause-ended : goal.returns-in_err-meet-in-Some-clause-ended
returns-in_err-meet-in-Some-clause-ended g c =
    let l = c.loop-peer_at in
    let v = c.in-Some.peer in
    let m = c.in_err-meet-in-Some.ensures in
    let here = peers_of l.self in
    if_err c.from_residual.result _ _ (λ ends is. record {
      peer = v;
      is_peer = peer_there here (peers_of c.meet.new.self) l.peer_at v (slice_get_within here l.peer_at v (sym c.in-Some.ensures)) (sym (get_or_from_slice_get here l.peer_at v v (sym c.in-Some.ensures))) (same_peers _ _ _ m.same.later);
      ends = subst (EndsMeet g.L.Pipes.taken_from c.meet.new.self v) (sym is) m.ended;
    }) c.from_residual.ensures.1
