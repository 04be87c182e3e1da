-- A side of a router as an end of a link and a session in the laws of runs.
-- s is a side, end and far its end and the peer's, twin_side a side in the laws of runs, f an event of a session, m a
-- message, n an incarnation.
use Rattle.std.specs.Prelude.{ℕ, ◌≡◌, true, false, List, [], ◌∷◌, Option}
use Rattle.bgp_codec.specs.declared.message.Message.{Message}
use Rattle.link_epoch.specs.Ends.{hung_up}
use Rattle.link_epoch.specs.declared.link_end.Phase.{Phase}
use Rattle.link_epoch.specs.declared.link_end.Phase.TheVariants as phase
use Rattle.session_fsm.specs.Table.{SessionView}
use Rattle.session_fsm.specs.declared.state.State.{State}
use Rattle.session_fsm.specs.declared.state.State.TheVariants as state
use Rattle.run_model.specs.Links as links
use Rattle.run_model.specs.Links.{End, Says, Shut, incarnation, heard_number, has_shut, said}
use Rattle.run_model.specs.Sessions as model
use Rattle.run_model.specs.Sessions.{SessionState, SessionEvent, MayCome, side_after}
use Rattle.router_model.specs.Messages.{updates_in}
use Rattle.router_model.specs.Sides.{Side, Draft}

abbrev pub phase_of : Phase → links.Phase
phase_of phase.Shut = links.Closed
phase_of phase.Offered = links.Offered
phase_of phase.Joined = links.Joined

-- the phase that a session's state goes with
abbrev pub phase_in : State → Phase
phase_in state.Idle = phase.Shut
phase_in state.Active = phase.Shut
phase_in state.Connect = phase.Offered
phase_in _ = phase.Joined

-- a side is this end: its numbers, its phase and its histories are those of what the end appended, took and used
pub record Reads (s : Side) (end : End Message) : Type 0 where
  pub phase : end.phase ≡ phase_of s.link.phase
  pub epoch : s.link.epoch ≡ incarnation end
  pub heard : s.link.heard ≡ heard_number end
  pub is_shut : s.link.heard_is_shut ≡ has_shut (heard_number end) end.taken
  pub acted : (n : ℕ) → s.acted n ≡ updates_in (said n end.used)
  pub sent : (n : ℕ) → s.sent n ≡ updates_in (said n end.appended)

abbrev pub state_of : State → SessionState
state_of state.Idle = model.Idle
state_of state.Connect = model.Connect
state_of state.Active = model.Active
state_of state.OpenSent = model.OpenSent
state_of state.OpenConfirm = model.OpenConfirm
state_of state.Established = model.Established

-- the end with its session's state
abbrev pub model_side : Side → End Message → model.Side Message
model_side s end = record { state = state_of s.session.state; end = end }

-- events of a session that may come one after another, the peer's end being `far`, and the side that they leave
abbrev pub MayComeAll : model.Side Message → End Message → List (SessionEvent Message) → Type 0
MayComeAll twin_side far [] = Unit {0}
MayComeAll twin_side far (f ∷ fs) = MayCome twin_side far f × MayComeAll (side_after twin_side f) far fs

abbrev pub sides_after : model.Side Message → List (SessionEvent Message) → model.Side Message
sides_after twin_side [] = twin_side
sides_after twin_side (f ∷ fs) = sides_after (side_after twin_side f) fs

-- the draft of a joined side that closes with this NOTIFICATION
abbrev pub closing : Side → SessionView → Message → Option ℕ → Draft
closing s session m left = record {
  session = session;
  link = hung_up s.link;
  says = Says s.link.epoch m ∷ Shut s.link.epoch ∷ [];
  drops = true;
  acts = false;
  left = left;
  overflows = false;
}
