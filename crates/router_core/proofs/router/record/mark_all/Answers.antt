use Rattle.std.proofs.Common.{◌≡◌, length, arith}
use Rattle.router_core.specs.Recorded.{Become, marked_if_up}
use Rattle.router_core.proofs.Marking.{passed_next, passed_all, room_here, room_left, written_back}
use Rattle.router_core.proofs.router.record.mark_all.Goals as goal

pub mark-requires : goal.mark-requires
mark-requires c =
    let l = c.loop-peer in
    let here = room_here l.peer-index l.peer-items c.peer-item.result l.invariant.room (omega (arith, c.loop-peer-test.true)) in
    (here, tt)

pub loop-peer-preserved : goal.loop-peer-preserved
loop-peer-preserved c =
    let l = c.loop-peer in
    let p = c.peer-item.result in
    let q = c.mark.new.peer in
    record {
      marked = passed_next (marked_if_up c.args.number) l.peer-index c.args.peers.now.items l.peer-items p q l.invariant.marked (omega (arith, c.loop-peer-test.true)) c.mark.ensures.0
          c.mark.ensures.1;
      room = room_left l.peer-index l.peer-items q l.invariant.room;
    }

pub returns : goal.returns
returns c =
    let l = c.loop-peer in
    let v = c.args.peers.now in
    let f = marked_if_up c.args.number in
    let many : v.len ≡ length v.items = omega (arith, v.ok.0) in
    let done = c.loop-peer-test.false in
    let all = passed_all f l.peer-index v.items l.peer-items l.invariant.marked (omega (arith, done)) in
    written_back (Become f v.items) f v.items l.peer-items v.len many all all
