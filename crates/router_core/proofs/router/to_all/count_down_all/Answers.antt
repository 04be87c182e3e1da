use Rattle.std.proofs.Common.{◌≡◌, length, refl, arith, get_or}
use Rattle.router_core.specs.declared.peers.Peer.{Peer}
use Rattle.router_core.specs.Recorded.{Become}
use Rattle.router_core.specs.ToAll.{counted_down}
use Rattle.router_core.proofs.Marking.{passed_next, passed_all, written_back}
use Rattle.router_core.proofs.router.to_all.count_down_all.Goals as goal

pub loop-peer-preserved : goal.loop-peer-preserved
loop-peer-preserved c =
    let l = c.loop-peer in
    let p = c.peer-item.result in
    let q : Peer = record { number = (get_or l.peer-items l.peer-index p).number; side = c.count_down.new.self } in
    passed_next counted_down l.peer-index c.args.peers.now.items l.peer-items p q l.invariant (omega (arith, c.loop-peer-test.true)) refl c.count_down.ensures

pub returns : goal.returns
returns c =
    let l = c.loop-peer in
    let v = c.args.peers.now in
    let many : v.len ≡ length v.items = omega (arith, v.ok.0) in
    let done = c.loop-peer-test.false in
    let all = passed_all counted_down l.peer-index v.items l.peer-items l.invariant (omega (arith, done)) in
    written_back (Become counted_down v.items) counted_down v.items l.peer-items v.len many all all
