-- What a close of a session may do.
use Rattle.std.proofs.Common.{◌≡◌, [], ◌∷◌, arith}
use Rattle.bgp_codec.specs.declared.message.Message.{Message}
use Rattle.session_fsm.specs.declared.state.State.{State}
use Rattle.session_fsm.specs.declared.state.State.TheVariants as state
use Rattle.run_model.specs.Links as links
use Rattle.run_model.specs.Sessions as model
use Rattle.router_runs.specs.Reading.{state_of}

pub not_idle : (st : State) → state_of st ≡ model.Idle → st ≡ state.Idle
not_idle st h = grind arith

-- a joined end may tell a NOTIFICATION
pub one_message : (p : links.Phase) (n : Message) → p ≡ links.Joined → model.MayNotify p (n ∷ [])
one_message links.Closed n h = absurd cc
one_message links.Offered n h = absurd cc
one_message links.Joined n h = omega arith
