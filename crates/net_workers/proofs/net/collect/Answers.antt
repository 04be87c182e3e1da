use Rattle.std.proofs.Common.{◌≡◌, ◌∙◌, ap, sym, subst, arith, length, List}
use Rattle.snap_collector.specs.Collecting.{made_by}
use Rattle.snap_collector.specs.Collector.{AreMembers, made_for, with_offers}
use Rattle.offer_board.specs.declared.board.Made.{Made}
use Rattle.offer_board.specs.Boards.{offers_in}
use Rattle.net_workers.proofs.Records.{collect_one, collect_none}
use Rattle.net_workers.proofs.Lists.{none_left}
use Rattle.net_workers.proofs.net.collect.Goals as goal

pub loop-made-preserved : goal.loop-made-preserved
loop-made-preserved c =
    let i = c.loop-made.invariant in
    let old = c.loop-made.collector in
    let rest = c.next.new.self.rest.items in
    record {
      made = ap (λ f. with_offers f (offers_in rest)) c.in_ok-record.ensures.ok ∙ collect_one (made_for old) (made_by c.in-Some.made.offer) (offers_in rest)
          ∙ ap (λ (os : List Made). with_offers (made_for old) (offers_in os)) (sym c.in-Some.ensures.steps.0) ∙ i.made;
      members = subst (AreMembers c.args.network.now) (sym c.in_ok-record.ensures.members) i.members;
    }

pub returns-clause-made : goal.returns-clause-made
returns-clause-made c =
    let i = c.loop-made.invariant in
    let f = made_for c.loop-made.collector in
    let none : length c.loop-made.made-iterator.rest.items ≡ 0 = omega (arith, c.in-None.ensures.steps.0) in
    sym (collect_none f) ∙ ap (λ (os : List Made). with_offers f (offers_in os)) (sym (none_left c.loop-made.made-iterator.rest.items none)) ∙ i.made
