-- Laws of the session table (RFC 4271 section 8), for every session and every run.
use Rattle.std.specs.Prelude.{ℕ, zero, suc, ◌+◌, ◌≡◌, ◌≢◌, ◌⊎◌, ◌↔◌, List, [], ◌∷◌, ◌++◌, Bool, true, false, Some, None}
use Rattle.std.specs.List.{Contains}
use Rattle.session_fsm.specs.declared.config.SessionConfig.{SessionConfig}
use Rattle.session_fsm.specs.declared.state.State.{State}
use Rattle.session_fsm.specs.declared.state.State.TheVariants.{Idle, Connect, Active, OpenSent, OpenConfirm, Established}
use Rattle.session_fsm.specs.declared.event.FsmEvent.{FsmEvent}
use Rattle.session_fsm.specs.declared.event.FsmEvent.TheVariants.{ManualStart, ManualStop, AutomaticStart, ConnectRetryTimerExpires, HoldTimerExpires, KeepaliveTimerExpires, BgpOpen, KeepAliveMsg, UpdateMsg}
use Rattle.session_fsm.specs.declared.actions.Action.{Action}
use Rattle.session_fsm.specs.declared.actions.Action.TheVariants.{HangUp, Act, Up, Down}
use Rattle.session_fsm.specs.Table.{SessionView, on_event}
use Rattle.session_fsm.specs.declared.session.table.TheConstants.{LARGE_HOLD_TIME}
use Rattle.session_fsm.specs.Timers.{ticked, runs_out}
use Rattle.session_fsm.specs.Runs.{Input, Event, IsRun, session_after, actions_of, after, seconds}

-- an event asks to act on an UPDATE exactly where it is an UPDATE and the state is Established
abbrev pub ActsInEstablishedAlone : Type 0
ActsInEstablishedAlone = (a : SessionView) (e : FsmEvent) → Contains (on_event a e).actions Act ↔ ((a.state ≡ Established) × (e ≡ UpdateMsg))

-- Up comes exactly where Established is entered, Down exactly where it is left
abbrev pub UpEntersEstablished : Type 0
UpEntersEstablished = (a : SessionView) (e : FsmEvent) → Contains (on_event a e).actions Up ↔ ((a.state ≢ Established) × ((on_event a e).session.state ≡ Established))

abbrev pub DownLeavesEstablished : Type 0
DownLeavesEstablished = (a : SessionView) (e : FsmEvent) → Contains (on_event a e).actions Down ↔ ((a.state ≡ Established) × ((on_event a e).session.state ≢ Established))

-- these actions have Up and Down in turn, Up first where the session is not up
abbrev pub TakeTurns : (is_up : Bool) → List Action → Type 0
TakeTurns is_up [] = Unit {0}
TakeTurns is_up (Up ∷ actions) = (is_up ≡ false) × TakeTurns true actions
TakeTurns is_up (Down ∷ actions) = (is_up ≡ true) × TakeTurns false actions
TakeTurns is_up (_ ∷ actions) = TakeTurns is_up actions

abbrev pub UpAndDownTakeTurns : Type 0
UpAndDownTakeTurns = (config : SessionConfig) (is : List Input) → IsRun config is → TakeTurns false (actions_of config is)

-- between a hanging up and the next UPDATE that is acted on, the session comes up anew
abbrev pub NothingIsActedOnAfterAClose : Type 0
NothingIsActedOnAfterAClose = (config : SessionConfig) (is : List Input) (before between later : List Action) → IsRun config is
    → actions_of config is ≡ before ++ HangUp ∷ between ++ Act ∷ later → Contains between Up

-- a session that leaves another state for Idle hangs up
abbrev pub LeavingForIdleHangsUp : Type 0
LeavingForIdleHangsUp = (a : SessionView) (e : FsmEvent) → a.state ≢ Idle → (on_event a e).session.state ≡ Idle → Contains (on_event a e).actions HangUp

-- the states from OpenConfirm on
abbrev pub IsConfirmed : State → Type 0
IsConfirmed OpenConfirm = Unit {0}
IsConfirmed Established = Unit {0}
IsConfirmed _ = ⊥

abbrev pub StaysConfirmed : SessionView → List Input → Type 0
StaysConfirmed a [] = IsConfirmed a.state
StaysConfirmed a (i ∷ is) = IsConfirmed a.state × StaysConfirmed (after a i) is

-- if an OPEN came in OpenSent and either side's hold time is 0, no timer runs out as long as the session stays in
-- OpenConfirm or Established
abbrev pub HoldTimeZeroNeverExpires : Type 0
HoldTimeZeroNeverExpires = (config : SessionConfig) (before later : List Input) (received : ℕ)
    → IsRun config (before ++ Event (BgpOpen received) ∷ later)
    → (session_after config before).state ≡ OpenSent
    → (config.hold ≡ 0) ⊎ (received ≡ 0)
    → StaysConfirmed (session_after config (before ++ Event (BgpOpen received) ∷ [])) later
    → runs_out (session_after config (before ++ Event (BgpOpen received) ∷ later)) ≡ None

-- neither a KEEPALIVE nor an UPDATE comes
abbrev pub HearsNothing : List Input → Type 0
HearsNothing [] = Unit {0}
HearsNothing (i ∷ is) = (i ≢ Event KeepAliveMsg) × (i ≢ Event UpdateMsg) × HearsNothing is

-- the time that the HoldTimer gives: until the OPEN is there, and from then on
abbrev pub patience : State → ℕ → ℕ
patience OpenSent hold_time = LARGE_HOLD_TIME
patience _ hold_time = hold_time

-- if the HoldTimer runs out in the next second, its whole time has passed then without a KEEPALIVE or UPDATE
abbrev pub HoldTimerExpiresAfterSilence : Type 0
HoldTimerExpiresAfterSilence = (config : SessionConfig) (is : List Input) → IsRun config is
    → runs_out (session_after config is) ≡ Some HoldTimerExpires
    → (before : List Input) × (silence : List Input) × (is ≡ before ++ silence) × HearsNothing silence
    × (seconds silence + 1 ≡ patience (session_after config is).state (session_after config is).hold_time)

-- no start comes
abbrev pub NeverStarts : List Input → Type 0
NeverStarts [] = Unit {0}
NeverStarts (i ∷ is) = (i ≢ Event ManualStart) × (i ≢ Event AutomaticStart) × NeverStarts is

-- after a stop by hand and until the next start the session is Idle, and no timer runs
abbrev pub RestartWaitsForAStart : Type 0
RestartWaitsForAStart = (config : SessionConfig) (before later : List Input) → IsRun config (before ++ Event ManualStop ∷ later) → NeverStarts later
    → ((session_after config (before ++ Event ManualStop ∷ later)).state ≡ Idle)
    × ((session_after config (before ++ Event ManualStop ∷ later)).restart_timer ≡ 0)
    × (runs_out (session_after config (before ++ Event ManualStop ∷ later)) ≡ None)

-- the timers that can run in a state: the ConnectRetryTimer in Connect and Active, the HoldTimer from
-- OpenSent on, the KeepaliveTimer from OpenConfirm on, the RestartTimer in Idle
abbrev pub TimersFit : State → SessionView → Type 0
TimersFit Idle a = (a.connect_retry_timer ≡ 0) × (a.hold_timer ≡ 0) × (a.keepalive_timer ≡ 0)
TimersFit Connect a = (a.hold_timer ≡ 0) × (a.keepalive_timer ≡ 0) × (a.restart_timer ≡ 0)
TimersFit Active a = (a.hold_timer ≡ 0) × (a.keepalive_timer ≡ 0) × (a.restart_timer ≡ 0)
TimersFit OpenSent a = (a.connect_retry_timer ≡ 0) × (a.keepalive_timer ≡ 0) × (a.restart_timer ≡ 0)
TimersFit OpenConfirm a = (a.connect_retry_timer ≡ 0) × (a.restart_timer ≡ 0)
TimersFit Established a = (a.connect_retry_timer ≡ 0) × (a.restart_timer ≡ 0)

abbrev pub EachTimerRunsInItsStates : Type 0
EachTimerRunsInItsStates = (config : SessionConfig) (is : List Input) → IsRun config is → TimersFit (session_after config is).state (session_after config is)

-- the session after so many seconds in which nothing else happens
abbrev pub after_seconds : ℕ → SessionView → SessionView
after_seconds zero a = a
after_seconds (suc n) a = after_seconds n (ticked a)

-- a timer set to n runs out in the n-th second, one timer at a time, the HoldTimer first
abbrev pub HoldTimerRunsOut : Type 0
HoldTimerRunsOut = (n : ℕ) (a : SessionView) → (runs_out (after_seconds n a) ≡ Some HoldTimerExpires) ↔ (a.hold_timer ≡ n + 1)

abbrev pub KeepaliveTimerRunsOut : Type 0
KeepaliveTimerRunsOut = (n : ℕ) (a : SessionView) → (runs_out (after_seconds n a) ≡ Some KeepaliveTimerExpires) ↔ ((a.keepalive_timer ≡ n + 1) × (a.hold_timer ≢ n + 1))

abbrev pub ConnectRetryTimerRunsOut : Type 0
ConnectRetryTimerRunsOut = (n : ℕ) (a : SessionView) → (runs_out (after_seconds n a) ≡ Some ConnectRetryTimerExpires)
    ↔ ((a.connect_retry_timer ≡ n + 1) × (a.hold_timer ≢ n + 1) × (a.keepalive_timer ≢ n + 1))

abbrev pub RestartTimerRunsOut : Type 0
RestartTimerRunsOut = (n : ℕ) (a : SessionView) → (runs_out (after_seconds n a) ≡ Some AutomaticStart)
    ↔ ((a.restart_timer ≡ n + 1) × (a.hold_timer ≢ n + 1) × (a.keepalive_timer ≢ n + 1) × (a.connect_retry_timer ≢ n + 1))
