use Rattle.std.proofs.Common.{◌≡◌, ◌+◌, ◌<◌, suc, arith, subst, length}
use Rattle.world_core.specs.Views.{Reaches}
use Rattle.world_core.proofs.Worlds.{reaches_first, reaches_next, plays_until}
use Rattle.world_core.proofs.player.play.Goals as goal

pub loop-at-init : goal.loop-at-init
loop-at-init c = reaches_first c.args.network.now c.args.events.now c.in-Ok.world c.in-Ok.ensures.opens c.in-Ok.ensures.promises

pub returns-in-Err-step-clause-plays : goal.returns-in-Err-step-clause-plays
returns-in-Err-step-clause-plays c =
    let inside : c.loop-at.at < length c.args.events.now = omega (arith, c.loop-at-test.true) in
    plays_until c.args.network.now c.args.events.now c.loop-at.at c.index-events-at.result c.loop-at.world c.step.new.self c.in-Err-step.why inside c.index-events-at.is c.loop-at.invariant c.in-Err-step.ensures.answers

pub loop-at-preserved : goal.loop-at-preserved
loop-at-preserved c =
    let inside : c.loop-at.at < length c.args.events.now = omega (arith, c.loop-at-test.true) in
    let one : suc c.loop-at.at ≡ c.loop-at.at + 1 = omega arith in
    subst (λ i. Reaches c.args.network.now c.args.events.now i c.step.new.self) one
    (reaches_next c.args.network.now c.args.events.now c.loop-at.at c.index-events-at.result c.loop-at.world c.step.new.self c.in_default.field-0 inside c.index-events-at.is c.loop-at.invariant c.in_default.ensures.answers c.step.ensures.same c.step.ensures.promises)
