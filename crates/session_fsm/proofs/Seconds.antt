-- Seconds in which nothing else happens.
use Rattle.std.proofs.Common.{◌≡◌, ◌≢◌, ℕ, zero, suc, ◌+◌, ◌-◌, ◌==◌, Bool, true, false, cond, Option, Some, None, refl, arith}
use Rattle.std.specs.Prelude.{◌↔◌}
use Rattle.std.proofs.lemmas.Bool.{eqb-true, eqb-false, eq-eqb, ne_eqb}
use Rattle.session_fsm.specs.declared.event.FsmEvent.{FsmEvent}
use Rattle.session_fsm.specs.declared.event.FsmEvent.TheVariants.{AutomaticStart, ConnectRetryTimerExpires, HoldTimerExpires, KeepaliveTimerExpires}
use Rattle.session_fsm.specs.Table.{SessionView}
use Rattle.session_fsm.specs.Timers.{ticked}
use Rattle.session_fsm.specs.Laws.{after_seconds, HoldTimerRunsOut, KeepaliveTimerRunsOut, ConnectRetryTimerRunsOut, RestartTimerRunsOut}

-- what is left of the timers after n seconds
record Left (n : ℕ) (a b : SessionView) : Type 0 where
  connect_retry_timer : b.connect_retry_timer ≡ a.connect_retry_timer - n
  hold_timer : b.hold_timer ≡ a.hold_timer - n
  keepalive_timer : b.keepalive_timer ≡ a.keepalive_timer - n
  restart_timer : b.restart_timer ≡ a.restart_timer - n

left : (n : ℕ) (a : SessionView) → Left n a (after_seconds n a)
left zero a = record { connect_retry_timer = omega arith; hold_timer = omega arith; keepalive_timer = omega arith; restart_timer = omega arith }
left (suc n) a = let l = left n (ticked a) in record {
  connect_retry_timer = omega (arith, l.connect_retry_timer);
  hold_timer = omega (arith, l.hold_timer);
  keepalive_timer = omega (arith, l.keepalive_timer);
  restart_timer = omega (arith, l.restart_timer);
}

-- which of the four comes
abbrev which : Bool → Bool → Bool → Bool → Option FsmEvent
which h k c r = cond h (Some HoldTimerExpires) (cond k (Some KeepaliveTimerExpires) (cond c (Some ConnectRetryTimerExpires) (cond r (Some AutomaticStart) None)))

which_hold : (h k c r : Bool) → which h k c r ≡ Some HoldTimerExpires ↔ (h ≡ true)
which_hold h k c r = ((λ e. grind arith), (λ e. rw e refl))

which_keepalive : (h k c r : Bool) → which h k c r ≡ Some KeepaliveTimerExpires ↔ ((k ≡ true) × (h ≡ false))
which_keepalive h k c r = ((λ e. grind arith), (λ e. rw (e.1, e.0) refl))

which_connect_retry : (h k c r : Bool) → which h k c r ≡ Some ConnectRetryTimerExpires ↔ ((c ≡ true) × (h ≡ false) × (k ≡ false))
which_connect_retry h k c r = ((λ e. grind arith), (λ e. rw (e.1, e.2, e.0) refl))

which_restart : (h k c r : Bool) → which h k c r ≡ Some AutomaticStart ↔ ((r ≡ true) × (h ≡ false) × (k ≡ false) × (c ≡ false))
which_restart h k c r = ((λ e. grind arith), (λ e. rw (e.1, e.2, e.3, e.0) refl))

-- one second is left of a timer
last : (x y n : ℕ) → y ≡ x - n → ((y == 1) ≡ true) ↔ (x ≡ n + 1)
last x y n e = ((λ h. omega (arith, e, eqb-true y 1 h)), (λ h. eq-eqb y 1 (omega (arith, e, h))))

not_last : (x y n : ℕ) → y ≡ x - n → ((y == 1) ≡ false) ↔ (x ≢ n + 1)
not_last x y n e = ((λ h q. eqb-false y 1 h (omega (arith, e, q))), (λ h. ne_eqb y 1 (λ q. h (omega (arith, e, q)))))

pub hold_runs_out : HoldTimerRunsOut
hold_runs_out n a =
    let b = after_seconds n a in
    let l = left n a in
    let w = which_hold (b.hold_timer == 1) (b.keepalive_timer == 1) (b.connect_retry_timer == 1) (b.restart_timer == 1) in
    let h = last a.hold_timer b.hold_timer n l.hold_timer in
    ((λ e. h.0 (w.0 e)), (λ e. w.1 (h.1 e)))

pub keepalive_runs_out : KeepaliveTimerRunsOut
keepalive_runs_out n a =
    let b = after_seconds n a in
    let l = left n a in
    let w = which_keepalive (b.hold_timer == 1) (b.keepalive_timer == 1) (b.connect_retry_timer == 1) (b.restart_timer == 1) in
    let k = last a.keepalive_timer b.keepalive_timer n l.keepalive_timer in
    let h = not_last a.hold_timer b.hold_timer n l.hold_timer in
    ((λ e. (k.0 (w.0 e).0, h.0 (w.0 e).1)), (λ e. w.1 (k.1 e.0, h.1 e.1)))

pub connect_retry_runs_out : ConnectRetryTimerRunsOut
connect_retry_runs_out n a =
    let b = after_seconds n a in
    let l = left n a in
    let w = which_connect_retry (b.hold_timer == 1) (b.keepalive_timer == 1) (b.connect_retry_timer == 1) (b.restart_timer == 1) in
    let c = last a.connect_retry_timer b.connect_retry_timer n l.connect_retry_timer in
    let h = not_last a.hold_timer b.hold_timer n l.hold_timer in
    let k = not_last a.keepalive_timer b.keepalive_timer n l.keepalive_timer in
    ((λ e. (c.0 (w.0 e).0, h.0 (w.0 e).1, k.0 (w.0 e).2)), (λ e. w.1 (c.1 e.0, h.1 e.1, k.1 e.2)))

pub restart_runs_out : RestartTimerRunsOut
restart_runs_out n a =
    let b = after_seconds n a in
    let l = left n a in
    let w = which_restart (b.hold_timer == 1) (b.keepalive_timer == 1) (b.connect_retry_timer == 1) (b.restart_timer == 1) in
    let r = last a.restart_timer b.restart_timer n l.restart_timer in
    let h = not_last a.hold_timer b.hold_timer n l.hold_timer in
    let k = not_last a.keepalive_timer b.keepalive_timer n l.keepalive_timer in
    let c = not_last a.connect_retry_timer b.connect_retry_timer n l.connect_retry_timer in
    ((λ e. (r.0 (w.0 e).0, h.0 (w.0 e).1, k.0 (w.0 e).2, c.0 (w.0 e).3)), (λ e. w.1 (r.1 e.0, h.1 e.1, k.1 e.2, c.1 e.3)))
