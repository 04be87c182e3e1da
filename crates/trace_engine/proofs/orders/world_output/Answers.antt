use Rattle.std.proofs.Common.{subst, sym}
use Rattle.text_engines.specs.Decoding.{Output}
use Rattle.text_engines.proofs.CheckLemmas.{both_ok, if_ok}
use denote.Param.{number}
use Rattle.trace_engine.specs.contracts.orders.world_output.{OCTETS-type}
use Rattle.trace_engine.specs.Tracing.{OrdersTrace}
use Rattle.trace_engine.proofs.CallLemmas.{all_traced, all_stopped}
use Rattle.trace_engine.proofs.orders.world_output.Goals as goal

pub returns-in-Ok : goal.returns-in-Ok
returns-in-Ok g c =
    if_ok _ _ c.end_output.result
    (λ printed is.
    subst (λ (o : Output). OrdersTrace (OCTETS-type (number g.row.OCTETS)) c.args.network.now c.args.out.items c.args.orders.now o) (sym is)
    (all_traced (OCTETS-type (number g.row.OCTETS)) c.args.network.now c.args.world c.trace_all.new.world c.args.out.items c.args.orders.now c.trace_all.new.tracer.out.items c.requires c.in-Ok.ensures.traces))
    c.end_output.ensures

pub returns : goal.returns
returns g c =
    both_ok _ _ _ c.stop_output.result
    (λ printed kind is.
    subst (λ (o : Output). OrdersTrace (OCTETS-type (number g.row.OCTETS)) c.args.network.now c.args.out.items c.args.orders.now o) (sym is)
    (all_stopped (OCTETS-type (number g.row.OCTETS)) c.args.network.now c.args.world c.trace_all.new.world c.args.out.items c.args.orders.now c.in-Err.stop c.trace_all.new.tracer.out.items kind c.requires c.in-Err.ensures.traces))
    c.stop_output.ensures.kind c.stop_output.ensures.output
