use Rattle.std.proofs.Common.{arith}
use Rattle.stable_search.proofs.RelateLemmas.{from_more}
use Rattle.stable_search.proofs.relating.ends_between.Goals as goal

pub loop-from-preserved : goal.loop-from-preserved
loop-from-preserved c = (
  c.in_ok-add_ends.ensures.each c.loop-from.invariant.0,
  from_more c.args.network.now.links c.args.seats.now c.loop-from.ends.items c.add_ends.new.ends.items c.loop-from.from c.loop-from.invariant.1 c.in_ok-add_ends.ensures.kept c.in_ok-add_ends.ensures.all,
)

pub returns : goal.returns
returns c = record {
  each = c.loop-from.invariant.0;
  all = λ from lt. c.loop-from.invariant.1 from (omega (arith, lt, c.loop-from-test.false));
}
