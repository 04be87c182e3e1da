use Rattle.std.proofs.lemmas.Bool.{iff_false}
use Rattle.ranked_policy.proofs.OrderLoops.{first_no, first_yes, first_none}
use Rattle.ranked_policy.proofs.policy.comes_first.Goals as goal

pub returns-then-is : goal.returns-then-is
returns-then-is c =
    first_no c.args.paths.now c.args.a.now c.args.b.now c.loop-listed.listed-index c.listed-item.result c.loop-listed-test.true c.listed-item.is
    (c.is.ensures.0 c.if-is.true) c.loop-listed.invariant

pub returns-then-is-2 : goal.returns-then-is-2
returns-then-is-2 c =
    first_yes c.args.paths.now c.args.a.now c.args.b.now c.loop-listed.listed-index c.listed-item.result c.loop-listed-test.true c.listed-item.is
    (iff_false c.is.ensures c.if-is.false) (c.is-in-loop-listed.ensures.0 c.if-is-2.true) c.loop-listed.invariant

pub returns : goal.returns
returns c = first_none c.args.paths.now c.args.a.now c.args.b.now c.loop-listed.listed-index c.loop-listed-test.false c.loop-listed.invariant
