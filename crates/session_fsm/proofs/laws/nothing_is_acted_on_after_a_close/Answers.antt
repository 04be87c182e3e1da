use Rattle.session_fsm.proofs.Runs.{nothing_acted_on}
use Rattle.session_fsm.proofs.laws.nothing_is_acted_on_after_a_close.Goals as goal

pub returns : goal.returns
returns c = nothing_acted_on
