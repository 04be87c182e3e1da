use Rattle.std.proofs.Common.{◌++◌, List, ℕ, ap, subst, ◌∙◌}
use Rattle.std.specs.Prelude.{codes}
use Rattle.net_text.specs.Lexing.{lines_of}
use Rattle.net_text.specs.Printing.{line}
use Rattle.text_engines.specs.Decoding.{output}
use Rattle.text_engines.proofs.CheckLemmas.{if_ok}
use denote.Param.{number}
use Rattle.trace_engine.specs.contracts.orders.orders_output.{OCTETS-type}
use Rattle.trace_engine.specs.Tracing.{OrdersTrace}
use Rattle.net_text.specs.Layout.{network_text}
use Rattle.trace_engine.proofs.orders.orders_output.Goals as goal

pub returns-in-Ok : goal.returns-in-Ok
returns-in-Ok g c =
    if_ok _ _ c.world_output.result
    (λ printed gives.
    subst (λ (head : List ℕ). OrdersTrace (OCTETS-type (number g.row.OCTETS)) c.args.network.now head c.args.orders.now (output printed.0.items printed.1))
    (c.in_ok-extend_from_slice.ensures.items ∙ ap (λ (t : List ℕ). t ++ line (codes "schedule")) (c.in_ok-put_network.ensures.ok ∙ ap (λ (t : List ℕ). t ++ network_text (lines_of c.args.lines.now)) c.new-out.ensures.items))
    gives)
    c.world_output.ensures
