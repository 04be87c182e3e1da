use Rattle.std.proofs.Common.{◌≡◌, ◌+◌, ◌∙◌, length, List, ap, sym, refl, subst, arith, get_or, set}
use Rattle.router_side.specs.declared.draft.SideDraft.{SideDraft}
use Rattle.router_core.specs.declared.peers.Peer.{Peer}
use Rattle.router_core.specs.Recorded.{Become}
use Rattle.router_core.specs.ToAll.{draft_by, AreReady}
use Rattle.router_core.proofs.Marking.{passed_next, passed_same, written_back}
use Rattle.router_core.proofs.Moving.{ReadyBelow, ready_next, ready_all}
use Rattle.router_core.proofs.router.to_all.prepare.Goals as goal

pub returns-in_err-reserve-clause-same : goal.returns-in_err-reserve-clause-same
returns-in_err-reserve-clause-same c =
    let l = c.loop-peer in
    let p = c.peer-item.result in
    let q : Peer = record { number = (get_or l.peer-items l.peer-index p).number; side = c.reserve.new.self } in
    let v = c.args.peers.now in
    let many : v.len ≡ length v.items = omega (arith, v.ok.0) in
    let same =
    passed_same (l.peer-index + 1) v.items (set l.peer-items l.peer-index q)
    (passed_next (λ s. s) l.peer-index v.items l.peer-items p q l.invariant.same (omega (arith, c.loop-peer-test.true)) refl c.reserve.ensures.side) in
    written_back (Become (λ s. s) v.items) (λ s. s) v.items (set l.peer-items l.peer-index q) v.len many same same

pub returns-in_err-push-clause-same : goal.returns-in_err-push-clause-same
returns-in_err-push-clause-same c =
    let l = c.loop-peer in
    let p = c.peer-item.result in
    let q : Peer = record { number = (get_or l.peer-items l.peer-index p).number; side = c.reserve.new.self } in
    let v = c.args.peers.now in
    let many : v.len ≡ length v.items = omega (arith, v.ok.0) in
    let same =
    passed_same (l.peer-index + 1) v.items (set l.peer-items l.peer-index q)
    (passed_next (λ s. s) l.peer-index v.items l.peer-items p q l.invariant.same (omega (arith, c.loop-peer-test.true)) refl c.reserve.ensures.side) in
    written_back (Become (λ s. s) v.items) (λ s. s) v.items (set l.peer-items l.peer-index q) v.len many same same

pub loop-peer-preserved : goal.loop-peer-preserved
loop-peer-preserved c =
    let l = c.loop-peer in
    let p = c.peer-item.result in
    let q : Peer = record { number = (get_or l.peer-items l.peer-index p).number; side = c.reserve.new.self } in
    let D = draft_by c.args.event c.args.own_open.now in
    let made = c.drafted-made.result in
    record {
      same = passed_next (λ s. s) l.peer-index c.args.peers.now.items l.peer-items p q l.invariant.same (omega (arith, c.loop-peer-test.true)) refl c.reserve.ensures.side;
      ready =
          subst (λ (ms : List SideDraft). ReadyBelow c.args.own_open.now D (l.peer-index + 1) (set l.peer-items l.peer-index q) ms) (sym c.in_ok-push.ensures.items)
          (ready_next c.args.own_open.now D l.peer-index l.peer-items l.drafts.items q made l.invariant.ready (omega (arith, c.loop-peer-test.true))
          (c.drafted-made.ensures ∙ ap D (sym c.reserve.ensures.side), c.in_ok-reserve.ensures.room));
    }

pub returns-clause-same : goal.returns-clause-same
returns-clause-same c =
    let l = c.loop-peer in
    let v = c.args.peers.now in
    let many : v.len ≡ length v.items = omega (arith, v.ok.0) in
    let same = passed_same l.peer-index v.items l.peer-items l.invariant.same in
    written_back (Become (λ s. s) v.items) (λ s. s) v.items l.peer-items v.len many same same

pub returns-clause-ready : goal.returns-clause-ready
returns-clause-ready c =
    let l = c.loop-peer in
    let v = c.args.peers.now in
    let D = draft_by c.args.event c.args.own_open.now in
    let many : v.len ≡ length v.items = omega (arith, v.ok.0) in
    let done = c.loop-peer-test.false in
    let ready = ready_all c.args.own_open.now D l.peer-index l.peer-items l.drafts.items l.invariant.ready (omega (arith, done)) in
    written_back (λ ps. AreReady c.args.own_open.now D ps l.drafts.items) (λ s. s) v.items l.peer-items v.len many (passed_same l.peer-index v.items l.peer-items l.invariant.same) ready
