use Rattle.std.proofs.Common.{◌<◌, ◌≤◌, arith, length, ◌++◌, List, subst, ap, sym}
use Rattle.std.proofs.lemmas.List.{take_all, append-nil}
use Rattle.world_core.specs.declared.schedule.Event.{Event}
use Rattle.world_core.specs.Flagging.{FlagsTo}
use Rattle.world_core.proofs.Flagging.{flags_next, flags_until}
use Rattle.world_core.proofs.flags.play_on.Goals as goal

pub loop-at-init : goal.loop-at-init
loop-at-init c = λ net before to. subst (λ (k : List Event). FlagsTo net k c.args.number c.args.world.now c.args.inside.now.items) (sym (append-nil before)) to

pub returns-in-Err-clause-plays : goal.returns-in-Err-clause-plays
returns-in-Err-clause-plays c =
    let l = c.loop-at in
    let here : l.at < length c.args.events.now = omega (arith, c.loop-at-test.true) in
    flags_until c.args.events.now c.args.number c.args.world.now c.args.inside.now.items l.at c.index-events-at.result l.world c.step_with_flag.new.world l.inside.items c.step_with_flag.new.inside.items c.in-Err.why here
    c.index-events-at.is l.invariant c.in-Err.ensures.flags

pub loop-at-preserved : goal.loop-at-preserved
loop-at-preserved c =
    let l = c.loop-at in
    let here : l.at < length c.args.events.now = omega (arith, c.loop-at-test.true) in
    flags_next c.args.events.now c.args.number c.args.world.now c.args.inside.now.items l.at c.index-events-at.result l.world c.step_with_flag.new.world l.inside.items c.step_with_flag.new.inside.items here c.index-events-at.is
    l.invariant c.in_default.ensures.flags c.in_default.ensures.same

pub returns-clause-plays : goal.returns-clause-plays
returns-clause-plays c =
    let l = c.loop-at in
    let all : length c.args.events.now ≤ l.at = omega (arith, c.loop-at-test.false) in
    λ net before to.
    subst (λ (k : List Event). FlagsTo net k c.args.number l.world l.inside.items) (ap (λ (k : List Event). before ++ k) (take_all l.at c.args.events.now all)) (l.invariant net before to)
