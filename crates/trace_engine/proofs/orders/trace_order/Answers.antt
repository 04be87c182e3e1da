use Rattle.std.proofs.Common.{◌≡◌, ◌-◌, length, ap, arith}
use Rattle.std.proofs.lemmas.Result.{err_from_is_err_and}
use Rattle.trace_engine.proofs.CallLemmas.{order_done, order_halts}
use Rattle.trace_engine.proofs.orders.trace_order.Goals as goal

pub returns-in_err-rest-clause-traces : goal.returns-in_err-rest-clause-traces
returns-in_err-rest-clause-traces g c =
    let p = err_from_is_err_and c.from_residual-in_err-rest.result c.from_residual-in_err-rest.ensures.1 in
    rw (p.1, p.2)
    (order_halts _ c.args.world.now c.obey_watched.new.self c.args.scheduled.now c.args.tracer.now.out.items c.put_head.new.out.items c.obey_watched.new.watcher.out.items c.in_err-rest.field-0.0 c.in_ok-put_head.ensures c.in_err-rest.ensures.watches)

pub returns-clause-traces : goal.returns-clause-traces
returns-clause-traces g c =
    let counted : c.saturating_sub-count.result ≡ length c.obey_watched.new.self.run - length c.args.world.now.run =
    omega (arith, c.saturating_sub-count.ensures, ap length c.run.ensures, ap length c.run-before.ensures) in
    order_done _ c.args.world.now c.obey_watched.new.self c.args.scheduled.now c.args.tracer.now.out.items c.put_head.new.out.items c.obey_watched.new.watcher.out.items c.put_tail.new.out.items c.in_ok-rest.rest c.saturating_sub-count.result
    c.in_ok-put_head.ensures c.in_ok-rest.ensures.watches c.in_ok-put_tail.ensures counted
