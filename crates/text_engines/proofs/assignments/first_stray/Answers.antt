use Rattle.std.proofs.Common.{refl}
use Rattle.text_engines.specs.Checking.{MayStand}
use Rattle.text_engines.proofs.CheckLemmas.{stray_found, all_on, all_all, not_true}
use Rattle.text_engines.proofs.assignments.first_stray.Goals as goal

pub returns-then-not-may_have : goal.returns-then-not-may_have
returns-then-not-may_have c =
    stray_found c.args.network.now c.args.entries.now c.loop-entry.entry-index c.entry-item.result c.loop-entry-test.true c.entry-item.is (λ may. not_true (c.if-not-may_have.ensures.1 may)) c.loop-entry.invariant

pub loop-entry-preserved : goal.loop-entry-preserved
loop-entry-preserved c =
    all_on (MayStand c.args.network.now) c.args.entries.now c.loop-entry.entry-index c.entry-item.result c.loop-entry-test.true c.entry-item.is (c.if-not-may_have.ensures.0 refl) c.loop-entry.invariant

pub returns : goal.returns
returns c = all_all (MayStand c.args.network.now) c.args.entries.now c.loop-entry.entry-index c.loop-entry-test.false c.loop-entry.invariant
