-- The timers of a session, tick by tick: a timer set to n runs out in the n-th tick after it was set.
use Rattle.std.specs.Prelude.{◌-◌, ◌==◌, cond, Option, None, Some}
use Rattle.session_fsm.specs.declared.event.FsmEvent.{FsmEvent}
use Rattle.session_fsm.specs.declared.event.FsmEvent.TheVariants.{AutomaticStart, ConnectRetryTimerExpires, HoldTimerExpires, KeepaliveTimerExpires}
use Rattle.session_fsm.specs.Table.{SessionView}

-- one second: each timer that runs has one less left
abbrev pub ticked : SessionView → SessionView
ticked a = record a {
  connect_retry_timer = a.connect_retry_timer - 1;
  hold_timer = a.hold_timer - 1;
  keepalive_timer = a.keepalive_timer - 1;
  restart_timer = a.restart_timer - 1;
}

-- the timer that runs out in the next tick, the HoldTimer before the KeepaliveTimer
abbrev pub runs_out : SessionView → Option FsmEvent
runs_out a = cond (a.hold_timer == 1) (Some HoldTimerExpires)
    (cond (a.keepalive_timer == 1) (Some KeepaliveTimerExpires)
    (cond (a.connect_retry_timer == 1) (Some ConnectRetryTimerExpires)
    (cond (a.restart_timer == 1) (Some AutomaticStart) None)))
