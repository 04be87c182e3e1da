use Rattle.std.proofs.Common.{List, inl, inr, subst}
use Rattle.net_text.specs.Lexing.{lines_of}
use Rattle.schedule_text.specs.declared.schedule.ScheduledOrder.{ScheduledOrder}
use Rattle.schedule_text.specs.Events.{head_of_schedule}
use Rattle.text_engines.specs.Decoding.{output}
use Rattle.text_engines.proofs.CheckLemmas.{if_ok, both_ok}
use denote.Param.{number}
use Rattle.trace_engine.specs.contracts.stream.network_output.{OCTETS-type}
use Rattle.trace_engine.specs.Tracing.{OrdersTrace}
use Rattle.trace_engine.proofs.stream.network_output.Goals as goal

pub returns-in-Ok-read_schedule : goal.returns-in-Ok-read_schedule
returns-in-Ok-read_schedule g c =
    if_ok _ _ c.orders_output.result
    (λ printed gives. inr (
      c.in-Ok.network,
      c.in-Ok.ensures.ok,
      inr (
        c.in-Ok-read_schedule.orders.items,
        c.in-Ok-read_schedule.ensures.ok,
        subst (λ (orders : List ScheduledOrder). OrdersTrace (OCTETS-type (number g.row.OCTETS)) c.in-Ok.network (head_of_schedule (lines_of c.args.split.now.front.now)) orders (output printed.0.items printed.1)) c.as_slice.ensures.value gives,
      ),
    ))
    c.orders_output.ensures

pub returns-in-Ok : goal.returns-in-Ok
returns-in-Ok g c =
    let refused = c.in-Err-read_schedule.refused in
    both_ok _ _ _ c.text_output.result (λ printed kind is. inr (c.in-Ok.network, c.in-Ok.ensures.ok, inl (refused.line, refused.code, kind, c.in-Err-read_schedule.ensures.err, is)))
    c.text_output.ensures.kind c.text_output.ensures.output
