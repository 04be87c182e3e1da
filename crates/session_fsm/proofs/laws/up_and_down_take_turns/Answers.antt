use Rattle.session_fsm.proofs.Runs.{up_and_down}
use Rattle.session_fsm.proofs.laws.up_and_down_take_turns.Goals as goal

pub returns-clause-turns : goal.returns-clause-turns
returns-clause-turns c = up_and_down
