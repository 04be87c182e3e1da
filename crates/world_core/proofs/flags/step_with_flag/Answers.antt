use Rattle.std.proofs.Common.{subst}
use Rattle.std.proofs.lemmas.Result.{err_from_is_err_and}
use Rattle.ranked_policy.specs.Plans.{IsNetwork}
use Rattle.world_core.proofs.Flagging.{flags_did, flags_nothing, flags_full, flags_refused}
use Rattle.world_core.proofs.flags.step_with_flag.Goals as goal

pub returns-in_err-step-clause-flags : goal.returns-in_err-step-clause-flags
returns-in_err-step-clause-flags c =
    let p = err_from_is_err_and c.from_residual.result c.from_residual.ensures.1 in
    rw (p.1, p.2)
    (flags_refused c.args.number c.args.world.now c.step.new.self c.step.new.self c.args.event.now c.args.inside.now.items c.args.inside.now.items c.in_err-step.field-0.0 c.in_err-step.ensures.answers)

pub returns-in-Ok-clause-flags : goal.returns-in-Ok-clause-flags
returns-in-Ok-clause-flags c =
    let gives = rw c.in-Did.is at c.in_ok-step.ensures.answers in
    flags_did c.answers_are_steps.ensures c.args.number c.args.world.now c.step.new.self c.args.event.now c.args.inside.now.items c.push.new.self.items c.is_inside-is_inside.result
    (subst IsNetwork c.network.ensures c.built.ensures.network) c.is_inside-is_inside.ensures gives c.in-Ok.ensures.items

pub returns-in-Err-clause-flags : goal.returns-in-Err-clause-flags
returns-in-Err-clause-flags c =
    let gives = rw c.in-Did.is at c.in_ok-step.ensures.answers in
    flags_full c.args.number c.args.world.now c.step.new.self c.step.new.self c.args.event.now c.args.inside.now.items c.args.inside.now.items gives

pub returns-in-Nothing-clause-flags : goal.returns-in-Nothing-clause-flags
returns-in-Nothing-clause-flags c =
    let gives = rw c.in-Nothing.is at c.in_ok-step.ensures.answers in
    flags_nothing c.args.number c.args.world.now c.step.new.self c.args.event.now c.args.inside.now.items gives
