use Rattle.std.proofs.Common.{List, inl, inr, subst}
use Rattle.schedule_text.specs.declared.schedule.ScheduledOrder.{ScheduledOrder}
use Rattle.text_engines.specs.Decoding.{output}
use Rattle.play_engine.specs.Playing.{OrdersGive}
use Rattle.play_engine.specs.Cutting.{IsShown}
use Rattle.text_engines.proofs.CheckLemmas.{if_ok, both_ok}
use Rattle.play_engine.proofs.stream.network_output.Goals as goal

pub returns-in-Ok-read_schedule : goal.returns-in-Ok-read_schedule
returns-in-Ok-read_schedule c =
    if_ok _ _ c.orders_output.result
    (λ printed gives. inr (
      c.in-Ok.network,
      c.in-Ok.ensures.ok,
      inr (
        c.in-Ok-read_schedule.orders.items,
        c.in-Ok-read_schedule.ensures.ok,
        subst (λ (orders : List ScheduledOrder). OrdersGive (IsShown c.args.shown) c.in-Ok.network orders (output printed.0.items printed.1)) c.as_slice.ensures.value gives,
      ),
    ))
    c.orders_output.ensures

pub returns-in-Ok : goal.returns-in-Ok
returns-in-Ok c =
    let refused = c.in-Err-read_schedule.refused in
    both_ok _ _ _ c.text_output.result (λ printed kind is. inr (c.in-Ok.network, c.in-Ok.ensures.ok, inl (refused.line, refused.code, kind, c.in-Err-read_schedule.ensures.err, is)))
    c.text_output.ensures.kind c.text_output.ensures.output
