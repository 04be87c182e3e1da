use Rattle.std.proofs.Common.{subst, arith}
use Rattle.wheel_search.specs.Rows.{GoesWithin}
use Rattle.wheel_search.proofs.RowLemmas.{within_more, free_seat}
use Rattle.wheel_search.proofs.row.longest_rest.Goals as goal

pub loop-seat-preserved : goal.loop-seat-preserved
loop-seat-preserved c =
    let p = c.args.instance.now in
    let seat = c.seat-item.result in
    within_more p c.loop-seat.longest c.reach-longest.result c.args.seats.now c.loop-seat.seat-index seat c.loop-seat-test.true c.reach-longest.ensures.least c.seat-item.is c.loop-seat.invariant
    (subst (GoesWithin p c.reach-longest.result seat.router) c.rule_paths.ensures c.reach-longest.ensures.within)

pub returns : goal.returns
returns c = λ k d l. c.loop-seat.invariant k d (omega (arith, l, c.loop-seat-test.false))

pub returns-then-not-some_free : goal.returns-then-not-some_free
returns-then-not-some_free c = λ k d l v rest in_list none.
    absurd (cc (
      c.if-not-some_free.true,
      c.some_free.ensures.1 (free_seat c.policies_are_tests.ensures.prefers c.the_longest_rule_is_one.ensures c.args.instance.now c.network-network.ensures.problem.problem c.args.seats.now c.requires v none),
    ))
