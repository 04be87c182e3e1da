use Rattle.std.proofs.Common.{◌∙◌, ◌≡◌, sym, ap, arith, subst, []}
use Rattle.std.specs.List.{AllByRecursion}
use Rattle.ranked_policy.specs.Plans.{IsRouter, numbers}
use Rattle.net_workers.specs.Lanes.{AreNew}
use Rattle.net_workers.specs.Dealt.{Dealt, wires_by}
use Rattle.net_workers.specs.Ran.{IsFresh, lines_of}
use Rattle.net_workers.proofs.Lists.{one_more, all_more, lines_more, parts_more, shorter, is_router}
use Rattle.net_workers.proofs.running.new_workers.Goals as goal

pub new_worker-requires-clause-router : goal.new_worker-requires-clause-router
new_worker-requires-clause-router g c =
    subst (λ rs. IsRouter rs c.router-item.result.asn) c.routers-router-items.ensures.value
    (is_router c.routers-router-items.result.now c.loop-router.router-index c.router-item.result (omega (arith, c.loop-router-test.true)) c.router-item.is)

pub loop-router-preserved : goal.loop-router-preserved
loop-router-preserved g c =
    let l = c.loop-router in
    let items = c.in_ok-push.ensures.items in
    record {
      pairs = shorter _ _ c.in-Some-Some.lines l.router-index _ c.in-Some-Some.ensures.items l.invariant.pairs;
      gates = shorter _ _ c.in-Some-Some.gate l.router-index _ c.in-Some-Some.ensures'.items l.invariant.gates;
      new = (subst (AllByRecursion AreNew) c.in-Some-Some.ensures.items l.invariant.new).1;
      given = (subst (AllByRecursion (λ gate. g.G.Gate.given gate ≡ [])) c.in-Some-Some.ensures'.items l.invariant.given).1;
      numbers = rw items
          (one_more (λ e. e.worker.router.number) (λ r. r.asn) l.workers.items c.in_ok-new_worker.field-0 c.routers-router-items.result.now l.router-index c.router-item.result (omega (arith, c.loop-router-test.true)) c.router-item.is c.in_ok-new_worker.ensures.number
          ∙ l.invariant.numbers);
      handed = rw items
          (sym (lines_more (λ e. e.worker.gate) l.workers.items c.in_ok-new_worker.field-0 c.in-Some-Some.gate _ l.gates.rest.items c.in-Some-Some.ensures'.items c.in_ok-new_worker.ensures.gate)
          ∙ l.invariant.handed);
      dealt = rw items
          (subst (λ ls. Dealt c.args.network.now.settings.pipe c.args.network.now.links (wires_by (numbers c.args.network.now.routers) ls))
          (parts_more lines_of (λ e. e.pairs.items) l.workers.items c.in_ok-new_worker.field-0 c.in-Some-Some.lines _ l.ends.rest.items c.in-Some-Some.ensures.items
          (ap (λ ls. ls.items) c.in_ok-new_worker.ensures.pairs))
          l.invariant.dealt);
      fresh = rw items (all_more (λ e. IsFresh g.G.Gate.given c.args.network.now e.worker) l.workers.items c.in_ok-new_worker.field-0 l.invariant.fresh c.in_ok-new_worker.ensures.fresh);
    }
