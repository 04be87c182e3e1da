use Rattle.ranked_policy.proofs.OrderLoops.{earlier_here, earlier_nowhere}
use Rattle.ranked_policy.proofs.policy.comes_earlier.Goals as goal

pub returns-then-number-b : goal.returns-then-number-b
returns-then-number-b c = earlier_here c.args.a.now c.args.b.now c.loop-i.i c.loop-i-test.true c.requires c.if-number-b.true c.loop-i.invariant

pub returns : goal.returns
returns c = earlier_nowhere c.args.a.now c.args.b.now c.loop-i.i c.loop-i-test.false c.loop-i.invariant
