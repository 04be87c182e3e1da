use Rattle.std.proofs.Common.{◌∙◌, ap, sym, subst}
use Rattle.std.specs.Prelude.{Result, IfOk}
use Rattle.bgp_codec.specs.declared.message.Message.{Message}
use Rattle.bgp_codec.specs.declared.fault.Fault.{Fault}
use Rattle.bgp_codec.specs.declared.rule.Rule.{Rule}
use Rattle.bgp_codec.specs.Spelling.{IsWritable}
use Rattle.snap_marker.specs.Recordings.{Snapshots, closed}
use Rattle.session_fsm.specs.Table.{IsGoodEvent}
use Rattle.session_fsm.specs.declared.event.FsmEvent.{FsmEvent}
use Rattle.router_model.specs.Sides.{Side, AtHand, carried, react, draft_of, at_hand, event_of, front, without_front}
use Rattle.router_model.specs.Step.{close_at}
use Rattle.router_side.specs.Drafts.{draft, hand}
use Rattle.router_side.specs.SideOf.{side, IsInFront}
use Rattle.router_core.specs.Following.{Followed, standing}
use Rattle.router_core.specs.Handling.{update_acted, seen_where}
use Rattle.router_core.proofs.Handling.{link_on}
use Rattle.router_core.proofs.router.handle.handle_by_draft.Goals as goal

pub record-requires-clause-link : goal.record-requires-clause-link
record-requires-clause-link c = link_on c.args.marks.now.unfinished c.copy_for.new.marks.unfinished c.args.peer c.copy_for.ensures.over c.requires.link

pub reserve-requires-clause-own : goal.reserve-requires-clause-own
reserve-requires-clause-own c = c.requires.own (side c.args.side.now).width

pub draft_message-made-requires : goal.draft_message-made-requires
draft_message-made-requires c = subst IsGoodEvent (sym c.opened-event.ensures.event) c.in_ok-read.ensures.reads.good

-- what is at hand is in front
pub carry_front-requires-clause-front : goal.carry_front-requires-clause-front
carry_front-requires-clause-front c =
    let same = c.in_ok-reserve.ensures.side in
    let before : IsInFront (side c.args.side.now).width (side c.args.side.now).held (hand c.opened-event.result.1) = (
      c.requires.rule.0,
      c.args.peer,
      c.opened-event.ensures.given ∙ ap at_hand c.in_ok-read.ensures.reads.read ∙ ap (λ (k : Rule). at_hand (front k (side c.args.side.now).held)) c.requires.rule.1,
    ) in
    subst (λ (s : Side). IsInFront s.width s.held (hand c.opened-event.result.1)) (sym same) before

pub returns-clause-ok : goal.returns-clause-ok
returns-clause-ok c =
    let o = c.args.own_open.now in
    let s = side c.args.side.now in
    let m = front c.args.rule.now s.held in
    let h = hand c.opened-event.result.1 in
    let a = draft o h c.draft_message-made.result in
    let read = c.in_ok-read.ensures.reads.read in
    let hand_is = c.opened-event.ensures.given ∙ ap at_hand read in
    let event_is = c.opened-event.ensures.event ∙ ap event_of read in
    let reserved = c.in_ok-reserve.ensures.side in
    record {
      hand = h;
      draft = a;
      between = c.hear.new.tables;
      hand_is = hand_is;
      draft_is =
          c.draft_message-made.ensures ∙ ap (λ (k : AtHand). react o k (draft_of s.session s.link) c.opened-event.result.0) hand_is
          ∙ ap (λ (e : FsmEvent). react o (at_hand m) (draft_of s.session s.link) e) event_is;
      side = c.carry_front.ensures.side ∙ ap (λ (z : Side). carried h (without_front z) a) reserved;
      hears = c.in_ok-hear.ensures.ok;
      follows = subst (λ (z : Side). Followed c.hear.new.tables c.carry_front.new.tables c.args.peer (standing z) (standing (side c.carry_front.new.side))) reserved c.carry_front.ensures.tables;
      writable = subst (λ (k : Result Message Fault). IfOk k (IsWritable c.args.rule.now)) read c.in_ok-read.ensures.reads.writable;
      sees =
          c.record.ensures.sees (update_acted a.acts h) c.in_ok-copy.ensures.copy
          ∙ ap (λ (x : Snapshots). seen_where c.args.peer (update_acted a.acts h) (closed (close_at c.args.peer a.left) x)) c.copy_for.ensures.state;
    }

pub returns-clause-over : goal.returns-clause-over
returns-clause-over c = λ vs o. c.record.ensures.over vs (c.copy_for.ensures.over vs o)

pub returns-clause-router : goal.returns-clause-router
returns-clause-router c = λ u o. c.record.ensures.router u (c.copy_for.ensures.router u o)
