-- what the collector has, with the offers that are left, is all
use Rattle.std.proofs.Common.{◌≡◌, []}
use Rattle.snap_collector.specs.Collector.{AreMembers, made_for, with_offers}
use Rattle.offer_board.specs.Boards.{offers_in}
use Rattle.net_workers.proofs.net.collect.Given as goal

abbrev pub invariant-loop-made : goal.invariant-loop-made
invariant-loop-made l = record {
  made : with_offers (made_for l.collector) (offers_in l.made-iterator.rest.items) ≡ with_offers (λ s. []) (offers_in l.fn.offers.items);
  members : AreMembers l.fn.network l.collector.members;
}
