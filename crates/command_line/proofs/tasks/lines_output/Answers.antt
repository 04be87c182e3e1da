use Rattle.std.proofs.Common.{inr}
use Rattle.text_engines.proofs.CheckLemmas.{if_ok}
use Rattle.command_line.proofs.tasks.lines_output.Goals as goal

pub returns-in-Run : goal.returns-in-Run
returns-in-Run g c = rw c.in-Run.is (if_ok _ _ c.network_output.result (λ printed gives. inr (c.in-Ok.network, c.in-Ok.ensures.ok, gives)) c.network_output.ensures)

pub returns-in-Ok : goal.returns-in-Ok
returns-in-Ok g c =
    rw c.in-Record.is (if_ok _ _ c.network_output-in-Record.result (λ printed gives. inr (c.in-Ok.network, c.in-Ok.ensures.ok, gives)) c.network_output-in-Record.ensures)
