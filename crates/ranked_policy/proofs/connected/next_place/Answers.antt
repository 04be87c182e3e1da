use Rattle.std.proofs.Common.{subst, get_or}
use Rattle.std.proofs.lemmas.List.{take_all, get_or_default}
use Rattle.std.proofs.lemmas.List.Elements.{All-more}
use Rattle.ranked_policy.specs.Reaching.{IsClosed}
use Rattle.ranked_policy.proofs.Reached.{absent, stands, link_leads, linked_back, no_link, BothMarked, same_marks, other_false, other_true}
use Rattle.ranked_policy.proofs.connected.next_place.Goals as goal

pub returns-in_default : goal.returns-in_default
returns-in_default c =
    let known = c.requires.known c.loop-link.link-index no_link c.loop-link-test.true in
    absurd (absent c.args.routers.now c.in_default.field-0 _ c.in_default.ensures.before c.in_default.ensures.behind known.0)

pub returns-in_default-place_of_router : goal.returns-in_default-place_of_router
returns-in_default-place_of_router c =
    let known = c.requires.known c.loop-link.link-index no_link c.loop-link-test.true in
    absurd (absent c.args.routers.now c.in_default-place_of_router.field-0 _ c.in_default-place_of_router.ensures.before c.in_default-place_of_router.ensures.behind known.1)

pub returns-then-reached-one-2 : goal.returns-then-reached-one-2
returns-then-reached-one-2 c =
    let routers = c.args.routers.now in
    let links = c.args.links.now in
    let index = c.loop-link.link-index in
    let link = get_or links index no_link in
    let one = stands routers c.in-Ok.one link.one c.in-Ok.ensures.found.0 c.in-Ok.ensures.found.1 in
    let other = stands routers c.in-Ok-place_of_router.other link.other c.in-Ok-place_of_router.ensures.found.0 c.in-Ok-place_of_router.ensures.found.1 in (
      c.in-Ok-place_of_router.ensures.found.0,
      other_false _ _ c.if-reached-one.true c.if-reached-one-2.true,
      (
        c.in-Ok.one,
        c.in-Ok.ensures.found.0,
        c.if-reached-one-2.true,
        link_leads routers links index c.in-Ok.one c.in-Ok-place_of_router.other link c.loop-link-test.true (get_or_default links index no_link link c.loop-link-test.true) one other,
      ),
    )

pub returns-then-reached-one : goal.returns-then-reached-one
returns-then-reached-one c =
    let routers = c.args.routers.now in
    let links = c.args.links.now in
    let index = c.loop-link.link-index in
    let link = get_or links index no_link in
    let one = stands routers c.in-Ok.one link.one c.in-Ok.ensures.found.0 c.in-Ok.ensures.found.1 in
    let other = stands routers c.in-Ok-place_of_router.other link.other c.in-Ok-place_of_router.ensures.found.0 c.in-Ok-place_of_router.ensures.found.1 in (
      c.in-Ok.ensures.found.0,
      c.if-reached-one-2.false,
      (
        c.in-Ok-place_of_router.other,
        c.in-Ok-place_of_router.ensures.found.0,
        other_true _ _ c.if-reached-one.true c.if-reached-one-2.false,
        linked_back links _ _
            (link_leads routers links index c.in-Ok.one c.in-Ok-place_of_router.other link c.loop-link-test.true (get_or_default links index no_link link c.loop-link-test.true) one other),
      ),
    )

pub loop-link-preserved : goal.loop-link-preserved
loop-link-preserved c =
    let routers = c.args.routers.now in
    let links = c.args.links.now in
    let index = c.loop-link.link-index in
    let link = get_or links index no_link in
    All-more (BothMarked routers c.args.reached.now) links index no_link c.loop-link-test.true c.loop-link.invariant (
      c.in-Ok.one,
      c.in-Ok-place_of_router.other,
      stands routers c.in-Ok.one link.one c.in-Ok.ensures.found.0 c.in-Ok.ensures.found.1,
      stands routers c.in-Ok-place_of_router.other link.other c.in-Ok-place_of_router.ensures.found.0 c.in-Ok-place_of_router.ensures.found.1,
      same_marks _ _ c.if-reached-one.false,
    )

pub returns : goal.returns
returns c =
    subst (λ ls. IsClosed c.args.routers.now ls c.args.reached.now) (take_all c.loop-link.link-index c.args.links.now c.loop-link-test.false) c.loop-link.invariant
