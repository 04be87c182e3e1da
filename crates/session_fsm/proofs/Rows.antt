-- Each row of the table, by its state and event.
use Rattle.std.proofs.Common.{◌≡◌, ◌≢◌, ℕ, ◌/◌, Bool, true, false, List, [], ◌∷◌, refl, arith, ◌⊎◌}
use Rattle.session_fsm.specs.declared.state.State.{State}
use Rattle.session_fsm.specs.declared.state.State.TheVariants.{Idle, Established}
use Rattle.session_fsm.specs.declared.event.FsmEvent.{FsmEvent}
use Rattle.session_fsm.specs.declared.event.FsmEvent.TheVariants.{ManualStart, ManualStop, AutomaticStart, KeepAliveMsg, UpdateMsg}
use Rattle.session_fsm.specs.declared.actions.Action.{Action}
use Rattle.session_fsm.specs.declared.actions.Action.TheVariants.{HangUp, Act, Up, Down}
use Rattle.session_fsm.specs.Table.{SessionView, Outcome, on_state}
use Rattle.session_fsm.specs.Laws.{TakeTurns, TimersFit, IsConfirmed, patience}

-- the session, put into this state
abbrev pub at : State → SessionView → SessionView
at st a = record a { state = st }

abbrev pub row : State → SessionView → FsmEvent → Outcome
row st a e = on_state st (at st a) e

abbrev pub is_established : State → Bool
is_established Established = true
is_established _ = false

-- whether the session is up after these actions, which it was or was not before them
abbrev pub up_after : Bool → List Action → Bool
up_after is_up [] = is_up
up_after is_up (Up ∷ actions) = up_after true actions
up_after is_up (Down ∷ actions) = up_after false actions
up_after is_up (_ ∷ actions) = up_after is_up actions

pub turns : (st : State) (a : SessionView) (e : FsmEvent) → TakeTurns (is_established st) (row st a e).actions
turns st a e = grind arith

pub turns_to : (st : State) (a : SessionView) (e : FsmEvent) → up_after (is_established st) (row st a e).actions ≡ is_established (row st a e).session.state
turns_to st a e = grind arith

-- UPDATEs are acted on only between Up and the next hanging up
abbrev pub ActsWhileOpen : Bool → List Action → Type 0
ActsWhileOpen is_open [] = Unit {0}
ActsWhileOpen is_open (Act ∷ actions) = (is_open ≡ true) × ActsWhileOpen is_open actions
ActsWhileOpen is_open (Up ∷ actions) = ActsWhileOpen true actions
ActsWhileOpen is_open (HangUp ∷ actions) = ActsWhileOpen false actions
ActsWhileOpen is_open (_ ∷ actions) = ActsWhileOpen is_open actions

abbrev pub open_after : Bool → List Action → Bool
open_after is_open [] = is_open
open_after is_open (Up ∷ actions) = open_after true actions
open_after is_open (HangUp ∷ actions) = open_after false actions
open_after is_open (_ ∷ actions) = open_after is_open actions

pub opens : (st : State) (a : SessionView) (e : FsmEvent) → ActsWhileOpen (is_established st) (row st a e).actions
opens st a e = grind arith

pub opens_to : (st : State) (a : SessionView) (e : FsmEvent) → open_after (is_established st) (row st a e).actions ≡ is_established (row st a e).session.state
opens_to st a e = grind arith

pub fits : (st : State) (a : SessionView) (e : FsmEvent) → TimersFit st a → TimersFit (row st a e).session.state (row st a e).session
fits st a e f = grind arith

-- no event changes the settings
pub config_stays : (st : State) (a : SessionView) (e : FsmEvent) → (row st a e).session.config ≡ a.config
config_stays st a e = grind arith

-- hold time 0: no timer runs
pub record IsStill (a : SessionView) : Type 0 where
  pub hold_time : a.hold_time ≡ 0
  pub connect_retry_timer : a.connect_retry_timer ≡ 0
  pub hold_timer : a.hold_timer ≡ 0
  pub keepalive_timer : a.keepalive_timer ≡ 0
  pub restart_timer : a.restart_timer ≡ 0

third_of_none : (n : ℕ) → n ≡ 0 → n / 3 ≡ 0
third_of_none n e = rw e refl

pub still : (st : State) (a : SessionView) (e : FsmEvent) → IsConfirmed st → IsConfirmed (row st a e).session.state → IsStill a → IsStill (row st a e).session
still st a e from to s = let third = third_of_none a.hold_time s.hold_time in grind arith

-- stopped by hand
pub record IsStopped (a : SessionView) : Type 0 where
  pub state : a.state ≡ Idle
  pub connect_retry_timer : a.connect_retry_timer ≡ 0
  pub hold_timer : a.hold_timer ≡ 0
  pub keepalive_timer : a.keepalive_timer ≡ 0
  pub restart_timer : a.restart_timer ≡ 0

pub stop_stops : (st : State) (a : SessionView) → TimersFit st a → IsStopped (row st a ManualStop).session
stop_stops st a f = grind arith

pub stays_stopped : (a : SessionView) (e : FsmEvent) → e ≢ ManualStart → e ≢ AutomaticStart → IsStopped (at Idle a) → IsStopped (row Idle a e).session
stays_stopped a e m s h = grind arith

-- an event leaves the HoldTimer and its time, stops it, or sets it
abbrev pub HoldTimerAfter : SessionView → FsmEvent → SessionView → Type 0
HoldTimerAfter a e b = (b.hold_timer ≡ 0) ⊎ (((b.hold_timer ≡ a.hold_timer) × (patience b.state b.hold_time ≡ patience a.state a.hold_time) × (e ≢ KeepAliveMsg) × (e ≢ UpdateMsg)) ⊎ (b.hold_timer ≡ patience b.state b.hold_time))

pub hold_timer_after : (st : State) (a : SessionView) (e : FsmEvent) → TimersFit st a → HoldTimerAfter (at st a) e (row st a e).session
hold_timer_after st a e f = grind arith
