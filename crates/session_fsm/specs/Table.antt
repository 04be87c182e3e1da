-- The session table: what each event does in each state (RFC 4271 section 8.2.2). A timer is a number of seconds, 0 if
-- it is stopped.
use Rattle.std.specs.Prelude.{ℕ, ◌/◌, min, List, [], ◌∷◌}
use Rattle.bgp_values.specs.declared.faults.TheConstants.{HOLD_TIMER_EXPIRED, FSM_ERROR, CEASE}
use Rattle.bgp_values.specs.Ranges.{IsHoldTime}
use Rattle.session_fsm.specs.declared.session.table.TheConstants.{CONNECT_RETRY_TIME, LARGE_HOLD_TIME}
use Rattle.session_fsm.specs.declared.config.SessionConfig.{SessionConfig}
use Rattle.session_fsm.specs.declared.state.State.{State}
use Rattle.session_fsm.specs.declared.state.State.TheVariants.{Idle, Connect, Active, OpenSent, OpenConfirm, Established}
use Rattle.session_fsm.specs.declared.event.FsmEvent.{FsmEvent}
use Rattle.session_fsm.specs.declared.event.FsmEvent.TheVariants.{ManualStart, ManualStop, AutomaticStart, ConnectRetryTimerExpires, HoldTimerExpires, KeepaliveTimerExpires, TcpCrAcked, TcpConnectionConfirmed, TcpConnectionFails, BgpOpen, BgpHeaderErr, BgpOpenMsgErr, NotifMsgVerErr, NotifMsg, KeepAliveMsg, UpdateMsg, UpdateMsgErr}
use Rattle.session_fsm.specs.declared.actions.Action.{Action}
use Rattle.session_fsm.specs.declared.actions.Action.TheVariants.{Dial, SendOpen, SendAlive, SendNotice, SendGiven, HangUp, Act, Up, Down}

-- the attributes of a session (RFC 4271 section 8): its settings, its state, the hold time that both
-- ends agreed on, and the seconds left of each timer
pub record SessionView : Type 0 where
  pub config : SessionConfig
  pub state : State
  pub hold_time : ℕ
  pub connect_retry_timer : ℕ
  pub hold_timer : ℕ
  pub keepalive_timer : ℕ
  pub restart_timer : ℕ

-- a row's outcome: the session afterwards, and the actions in order
pub record Outcome : Type 0 where
  pub session : SessionView
  pub actions : List Action

abbrev pub gives : SessionView → List Action → Outcome
gives a actions = record { session = a; actions = actions }

-- an event with the hold time of an OPEN without a fault
abbrev pub IsGoodEvent : FsmEvent → Type 0
IsGoodEvent (BgpOpen hold) = IsHoldTime hold
IsGoodEvent _ = Unit {0}

abbrev pub opening : SessionConfig → SessionView
opening config = record { config = config; state = Idle; hold_time = 0; connect_retry_timer = 0; hold_timer = 0; keepalive_timer = 0; restart_timer = 0 }

-- all timers are stopped, and the session is Idle until it is started
abbrev pub stopped : SessionView → SessionView
stopped a = record a { state = Idle; connect_retry_timer = 0; hold_timer = 0; keepalive_timer = 0; restart_timer = 0 }

-- a session that closed is stopped, and its RestartTimer is set
abbrev pub closed : SessionView → SessionView
closed a = record (stopped a) { restart_timer = a.config.restart }

abbrev pub dialling : SessionView → SessionView
dialling a = record a { state = Connect; connect_retry_timer = CONNECT_RETRY_TIME }

abbrev pub starting : SessionView → SessionView
starting a = record (dialling a) { restart_timer = 0 }

abbrev pub retrying : SessionView → SessionView
retrying a = record a { state = Active; connect_retry_timer = CONNECT_RETRY_TIME; hold_timer = 0 }

abbrev pub sent_open : SessionView → SessionView
sent_open a = record a { state = OpenSent; connect_retry_timer = 0; hold_timer = LARGE_HOLD_TIME }

-- the HoldTimer is set to the hold time, the KeepaliveTimer to a third of it; 0 leaves them stopped
abbrev pub held : SessionView → SessionView
held a = record a { hold_timer = a.hold_time }

abbrev pub kept_alive : SessionView → SessionView
kept_alive a = record a { keepalive_timer = a.hold_time / 3 }

-- the hold time is the smaller of the own and the received one (RFC 4271 section 4.2)
abbrev pub agreed : SessionView → ℕ → SessionView
agreed a received = kept_alive (held (record a { state = OpenConfirm; hold_time = min a.config.hold received }))

abbrev pub established : SessionView → SessionView
established a = held (record a { state = Established })

-- Idle
abbrev pub on_idle : SessionView → FsmEvent → Outcome
on_idle a ManualStart = gives (starting a) (Dial ∷ [])
on_idle a AutomaticStart = gives (starting a) (Dial ∷ [])
on_idle a ManualStop = gives (record a { restart_timer = 0 }) []
on_idle a _ = gives a []

-- Connect
abbrev pub on_connect : SessionView → FsmEvent → Outcome
on_connect a TcpCrAcked = gives (sent_open a) (SendOpen ∷ [])
on_connect a TcpConnectionConfirmed = gives (sent_open a) (SendOpen ∷ [])
on_connect a ConnectRetryTimerExpires = gives (dialling a) (HangUp ∷ Dial ∷ [])
on_connect a ManualStart = gives a []
on_connect a AutomaticStart = gives a []
on_connect a ManualStop = gives (stopped a) (HangUp ∷ [])
on_connect a _ = gives (closed a) (HangUp ∷ [])

-- Active
abbrev pub on_active : SessionView → FsmEvent → Outcome
on_active a TcpCrAcked = gives (sent_open a) (SendOpen ∷ [])
on_active a TcpConnectionConfirmed = gives (sent_open a) (SendOpen ∷ [])
on_active a ConnectRetryTimerExpires = gives (dialling a) (Dial ∷ [])
on_active a ManualStart = gives a []
on_active a AutomaticStart = gives a []
on_active a ManualStop = gives (stopped a) (HangUp ∷ [])
on_active a _ = gives (closed a) (HangUp ∷ [])

-- OpenSent
abbrev pub on_open_sent : SessionView → FsmEvent → Outcome
on_open_sent a (BgpOpen hold) = gives (agreed a hold) (SendAlive ∷ [])
on_open_sent a TcpConnectionFails = gives (retrying a) (HangUp ∷ [])
on_open_sent a ManualStop = gives (stopped a) (SendNotice CEASE ∷ HangUp ∷ [])
on_open_sent a HoldTimerExpires = gives (closed a) (SendNotice HOLD_TIMER_EXPIRED ∷ HangUp ∷ [])
on_open_sent a BgpHeaderErr = gives (closed a) (SendGiven ∷ HangUp ∷ [])
on_open_sent a BgpOpenMsgErr = gives (closed a) (SendGiven ∷ HangUp ∷ [])
on_open_sent a NotifMsgVerErr = gives (closed a) (HangUp ∷ [])
on_open_sent a ManualStart = gives a []
on_open_sent a AutomaticStart = gives a []
on_open_sent a TcpCrAcked = gives a []
on_open_sent a TcpConnectionConfirmed = gives a []
on_open_sent a _ = gives (closed a) (SendNotice FSM_ERROR ∷ HangUp ∷ [])

-- OpenConfirm
abbrev pub on_open_confirm : SessionView → FsmEvent → Outcome
on_open_confirm a KeepAliveMsg = gives (established a) (Up ∷ [])
on_open_confirm a KeepaliveTimerExpires = gives (kept_alive a) (SendAlive ∷ [])
on_open_confirm a ManualStop = gives (stopped a) (SendNotice CEASE ∷ HangUp ∷ [])
on_open_confirm a HoldTimerExpires = gives (closed a) (SendNotice HOLD_TIMER_EXPIRED ∷ HangUp ∷ [])
on_open_confirm a BgpHeaderErr = gives (closed a) (SendGiven ∷ HangUp ∷ [])
on_open_confirm a BgpOpenMsgErr = gives (closed a) (SendGiven ∷ HangUp ∷ [])
on_open_confirm a TcpConnectionFails = gives (closed a) (HangUp ∷ [])
on_open_confirm a NotifMsgVerErr = gives (closed a) (HangUp ∷ [])
on_open_confirm a NotifMsg = gives (closed a) (HangUp ∷ [])
on_open_confirm a ManualStart = gives a []
on_open_confirm a AutomaticStart = gives a []
on_open_confirm a TcpCrAcked = gives a []
on_open_confirm a TcpConnectionConfirmed = gives a []
on_open_confirm a _ = gives (closed a) (SendNotice FSM_ERROR ∷ HangUp ∷ [])

-- Established
abbrev pub on_established : SessionView → FsmEvent → Outcome
on_established a KeepAliveMsg = gives (held a) []
on_established a UpdateMsg = gives (held a) (Act ∷ [])
on_established a KeepaliveTimerExpires = gives (kept_alive a) (SendAlive ∷ [])
on_established a ManualStop = gives (stopped a) (SendNotice CEASE ∷ Down ∷ HangUp ∷ [])
on_established a HoldTimerExpires = gives (closed a) (SendNotice HOLD_TIMER_EXPIRED ∷ Down ∷ HangUp ∷ [])
on_established a BgpHeaderErr = gives (closed a) (SendGiven ∷ Down ∷ HangUp ∷ [])
on_established a UpdateMsgErr = gives (closed a) (SendGiven ∷ Down ∷ HangUp ∷ [])
on_established a TcpConnectionFails = gives (closed a) (Down ∷ HangUp ∷ [])
on_established a NotifMsgVerErr = gives (closed a) (Down ∷ HangUp ∷ [])
on_established a NotifMsg = gives (closed a) (Down ∷ HangUp ∷ [])
on_established a ManualStart = gives a []
on_established a AutomaticStart = gives a []
on_established a TcpCrAcked = gives a []
on_established a TcpConnectionConfirmed = gives a []
on_established a _ = gives (closed a) (SendNotice FSM_ERROR ∷ Down ∷ HangUp ∷ [])

-- the table
abbrev pub on_state : State → SessionView → FsmEvent → Outcome
on_state Idle a event = on_idle a event
on_state Connect a event = on_connect a event
on_state Active a event = on_active a event
on_state OpenSent a event = on_open_sent a event
on_state OpenConfirm a event = on_open_confirm a event
on_state Established a event = on_established a event

abbrev pub on_event : SessionView → FsmEvent → Outcome
on_event a event = on_state a.state a event
