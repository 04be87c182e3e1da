use Rattle.std.proofs.Common.{List, subst, ◌∙◌}
use Rattle.std.proofs.lemmas.List.{take_all}
use Rattle.schedule_text.specs.declared.schedule.ScheduledOrder.{ScheduledOrder}
use Rattle.trace_engine.proofs.CallLemmas.{AreTraced, orders_on, orders_halt}
use Rattle.trace_engine.proofs.orders.trace_all.Goals as goal

pub returns-in-Err-clause-traces : goal.returns-in-Err-clause-traces
returns-in-Err-clause-traces g c =
    let l = c.loop-scheduled in
    orders_halt _ c.args.world.now l.world c.trace_order.new.world c.args.orders.now l.scheduled-index c.scheduled-item.result c.args.tracer.now.out.items l.tracer.out.items c.trace_order.new.tracer.out.items c.in-Err.why
    c.loop-scheduled-test.true c.scheduled-item.is l.invariant.same l.invariant.done c.in-Err.ensures.traces

pub loop-scheduled-preserved : goal.loop-scheduled-preserved
loop-scheduled-preserved g c =
    let l = c.loop-scheduled in
    record {
      same = c.in_default.ensures.same ∙ l.invariant.same;
      done = orders_on _ c.args.world.now l.world c.trace_order.new.world c.args.orders.now l.scheduled-index c.scheduled-item.result c.args.tracer.now.out.items l.tracer.out.items c.trace_order.new.tracer.out.items
          c.loop-scheduled-test.true c.scheduled-item.is l.invariant.same l.invariant.done c.in_default.ensures.traces;
    }

pub returns-clause-traces : goal.returns-clause-traces
returns-clause-traces g c =
    let l = c.loop-scheduled in
    subst (λ (orders : List ScheduledOrder). AreTraced _ c.args.world.now orders c.args.tracer.now.out.items l.world l.tracer.out.items) (take_all l.scheduled-index c.args.orders.now c.loop-scheduled-test.false) l.invariant.done
