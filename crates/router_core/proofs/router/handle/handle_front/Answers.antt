use Rattle.std.proofs.Common.{◌≡◌, ◌∙◌, true, None, ap, sym, subst}
use Rattle.bgp_codec.specs.declared.update.Update.{Update}
use Rattle.bgp_framing.specs.Held.{is_waiting}
use Rattle.rib_tables.specs.Words.{TellsPath}
use Rattle.router_model.specs.Sides.{Side, HasUpdate, carried, is_up, without_front}
use Rattle.router_side.specs.SideOf.{side, acting, IsInFront}
use Rattle.router_core.proofs.HearingTold.{no_part, tells, at_hand_of, handled_by}
use Rattle.router_core.proofs.router.handle.handle_front.Goals as goal

pub act_on_front-requires-clause-up : goal.act_on_front-requires-clause-up
act_on_front-requires-clause-up c = subst (λ (s : Side). is_up s ≡ true) (sym c.in_ok-reserve_acting.ensures.side) (sym c.is_up.ensures ∙ c.if-is_up.true)

pub act_on_front-requires-clause-waits : goal.act_on_front-requires-clause-waits
act_on_front-requires-clause-waits c = subst (λ (s : Side). is_waiting s.held ≡ true) (sym c.in_ok-reserve_acting.ensures.side) c.requires.waits

pub act_on_front-requires-clause-front : goal.act_on_front-requires-clause-front
act_on_front-requires-clause-front c =
    let u = c.in-Some.told in
    let in_front = rw c.in-Some.is at c.in_ok-told.ensures in
    subst (λ (s : Side). (x : Update) × IsInFront s.width s.held (HasUpdate x)) (sym c.in_ok-reserve_acting.ensures.side) (u, at_hand_of (side c.args.side.now) c.args.peer u in_front)

-- the UPDATE in front is acted on, and the tables hear the path that it tells
pub returns-in-Some-clause-ok : goal.returns-in-Some-clause-ok
returns-in-Some-clause-ok c =
    let s = side c.args.side.now in
    let u = c.in-Some.told in
    let in_front = rw c.in-Some.is at c.in_ok-told.ensures in
    let none : c.args.marks.now.unfinished ≡ None = no_part c.args.marks.now.unfinished c.unfinished.result _ c.is_none.result c.unfinished.ensures c.is_none.ensures c.if-is_none.true in
    let same = c.in_ok-reserve_acting.ensures.side in
    let acted =
    c.act_on_front.ensures u (subst (λ (s : Side). IsInFront s.width s.held (HasUpdate u)) (sym same) (at_hand_of s c.args.peer u in_front)) ∙ ap (λ (s : Side). carried (HasUpdate u) (without_front s) (acting s)) same in
    let t = c.prefix_and_path.ensures in
    let hears = c.in-Ok.ensures.ok u (subst (λ (x : Update). TellsPath x c.prefix_and_path.result.0.now c.prefix_and_path.result.1.now) (sym t.1) (tells t.0 c.prefix_and_path.result.0.now c.prefix_and_path.result.1.now)) in
    handled_by c.updates_are_acted_on.ensures c.args.own_open.now c.args.rule.now c.requires.rule.0 c.args.peer s u (sym c.is_up.ensures ∙ c.if-is_up.true) c.requires.rule.1 in_front c.args.marks.now none (side c.act_on_front.new.self) c.args.tables.now
    c.hear_path_at.new.self acted hears
