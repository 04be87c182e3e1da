use Rattle.std.proofs.Common.{arith}
use Rattle.stable_search.proofs.RelateLemmas.{from_more}
use Rattle.stable_search.proofs.relating.ways_between.Goals as goal

pub loop-from-preserved : goal.loop-from-preserved
loop-from-preserved c = (
  c.in_ok-add_ways.ensures.each c.loop-from.invariant.0,
  from_more c.args.network.now.links c.args.seats.now c.loop-from.ways.items c.add_ways.new.ways.items c.loop-from.from c.loop-from.invariant.1 c.in_ok-add_ways.ensures.kept c.in_ok-add_ways.ensures.all,
)

pub returns : goal.returns
returns c = record {
  each = c.loop-from.invariant.0;
  all = λ from lt. c.loop-from.invariant.1 from (omega (arith, lt, c.loop-from-test.false));
}
