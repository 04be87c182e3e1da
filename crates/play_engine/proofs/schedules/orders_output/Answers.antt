use Rattle.std.proofs.Common.{sym, subst}
use Rattle.text_engines.specs.Decoding.{Output, output}
use Rattle.play_engine.specs.Playing.{OrdersGive}
use Rattle.play_engine.specs.Cutting.{IsShown}
use Rattle.text_engines.proofs.CheckLemmas.{if_ok, both_ok}
use Rattle.play_engine.proofs.PlayLemmas.{shown, halted}
use Rattle.play_engine.proofs.schedules.orders_output.Goals as goal

pub returns-in-Ok-obey_all : goal.returns-in-Ok-obey_all
returns-in-Ok-obey_all c =
    if_ok _ _ c.shown_output.result
    (λ printed gives. shown (IsShown c.args.shown) c.args.network.now c.args.orders.now c.in-Ok.world c.obey_all.new.world (output printed.0.items printed.1) c.in-Ok.ensures.opens c.obey_all.ensures.same c.in-Ok-obey_all.ensures.obeyed c.obey_all.ensures.promises gives)
    c.shown_output.ensures

pub returns-in-Err : goal.returns-in-Err
returns-in-Err c =
    both_ok _ _ _ c.stop_output.result
    (λ printed kind is.
    subst (λ (out : Output). OrdersGive (IsShown c.args.shown) c.args.network.now c.args.orders.now out) (sym is)
    (halted (IsShown c.args.shown) c.args.network.now c.args.orders.now c.in-Ok.world c.obey_all.new.world c.in-Err.stop c.in-Ok.ensures.opens c.in-Err.ensures.obeyed kind))
    c.stop_output.ensures.kind c.stop_output.ensures.output
