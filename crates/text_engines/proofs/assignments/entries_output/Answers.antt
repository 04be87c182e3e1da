use Rattle.std.proofs.Common.{inr}
use Rattle.text_engines.proofs.CheckLemmas.{if_ok}
use Rattle.text_engines.proofs.assignments.entries_output.Goals as goal

pub returns-in-None : goal.returns-in-None
returns-in-None c = if_ok _ _ c.judged_output.result (λ printed gives. inr (c.in-None.ensures, gives)) c.judged_output.ensures
