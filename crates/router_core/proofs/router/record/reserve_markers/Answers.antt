use Rattle.std.proofs.Common.{◌≡◌, ◌+◌, length, refl, arith, get_or, set}
use Rattle.router_core.specs.declared.peers.Peer.{Peer}
use Rattle.router_core.specs.Recorded.{Become, HaveRoomToMark}
use Rattle.router_core.proofs.Marking.{passed_next, passed_same, room_next, room_all, written_back}
use Rattle.router_core.proofs.router.record.reserve_markers.Goals as goal

pub returns-in_err-reserve_marker-clause-same : goal.returns-in_err-reserve_marker-clause-same
returns-in_err-reserve_marker-clause-same c =
    let l = c.loop-peer in
    let p = c.peer-item.result in
    let q : Peer = record { number = (get_or l.peer-items l.peer-index p).number; side = c.reserve_marker.new.self } in
    let v = c.args.peers.now in
    let many : v.len ≡ length v.items = omega (arith, v.ok.0) in
    let same =
    passed_same (l.peer-index + 1) v.items (set l.peer-items l.peer-index q)
    (passed_next (λ s. s) l.peer-index v.items l.peer-items p q l.invariant.same (omega (arith, c.loop-peer-test.true)) refl c.reserve_marker.ensures.side) in
    written_back (Become (λ s. s) v.items) (λ s. s) v.items (set l.peer-items l.peer-index q) v.len many same same

pub loop-peer-preserved : goal.loop-peer-preserved
loop-peer-preserved c =
    let l = c.loop-peer in
    let p = c.peer-item.result in
    let q : Peer = record { number = (get_or l.peer-items l.peer-index p).number; side = c.reserve_marker.new.self } in
    record {
      same = passed_next (λ s. s) l.peer-index c.args.peers.now.items l.peer-items p q l.invariant.same (omega (arith, c.loop-peer-test.true)) refl c.reserve_marker.ensures.side;
      room = room_next l.peer-index l.peer-items q l.invariant.room c.in_ok-reserve_marker.ensures.room;
    }

pub returns-clause-same : goal.returns-clause-same
returns-clause-same c =
    let l = c.loop-peer in
    let v = c.args.peers.now in
    let many : v.len ≡ length v.items = omega (arith, v.ok.0) in
    let same = passed_same l.peer-index v.items l.peer-items l.invariant.same in
    written_back (Become (λ s. s) v.items) (λ s. s) v.items l.peer-items v.len many same same

pub returns-clause-room : goal.returns-clause-room
returns-clause-room c =
    let l = c.loop-peer in
    let v = c.args.peers.now in
    let many : v.len ≡ length v.items = omega (arith, v.ok.0) in
    let done = c.loop-peer-test.false in
    written_back HaveRoomToMark (λ s. s) v.items l.peer-items v.len many (passed_same l.peer-index v.items l.peer-items l.invariant.same) (room_all l.peer-index l.peer-items l.invariant.room (omega (arith, done)))
