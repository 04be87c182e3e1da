-- What holds along every run.
use Rattle.std.proofs.Common.{◌≡◌, ◌≢◌, ℕ, suc, ◌+◌, ◌/◌, ◌==◌, Bool, true, false, cond, List, [], ◌∷◌, ◌++◌, Some, None, refl, sym, ap, subst, ◌∙◌, arith, inl, inr, ◌⊎◌, append_assoc, append-nil}
use Rattle.std.specs.Prelude.{min}
use Rattle.std.specs.List.{Contains}
use Rattle.std.proofs.lemmas.Bool.{cases_eq, eqb-true}
use Rattle.session_fsm.specs.declared.state.State.{State}
use Rattle.session_fsm.specs.declared.state.State.TheVariants.{Idle, OpenSent, Established}
use Rattle.session_fsm.specs.declared.event.FsmEvent.TheVariants.{ManualStart, ManualStop, AutomaticStart, ConnectRetryTimerExpires, HoldTimerExpires, KeepaliveTimerExpires, BgpOpen, KeepAliveMsg, UpdateMsg}
use Rattle.session_fsm.specs.declared.actions.Action.{Action}
use Rattle.session_fsm.specs.declared.actions.Action.TheVariants.{Dial, SendOpen, SendAlive, SendNotice, SendGiven, HangUp, Act, Up, Down}
use Rattle.session_fsm.specs.Table.{SessionView, on_event, opening, kept_alive}
use Rattle.session_fsm.specs.Timers.{ticked, runs_out}
use Rattle.session_fsm.specs.Runs.{Input, Event, Tick, UpdateSent, May, after, IsRunFrom, after_all, asked_by_all, session_after, actions_of, seconds}
use Rattle.session_fsm.specs.Laws.{TakeTurns, UpAndDownTakeTurns, NothingIsActedOnAfterAClose, IsConfirmed, StaysConfirmed, HoldTimeZeroNeverExpires, HearsNothing, patience, HoldTimerExpiresAfterSilence, NeverStarts, RestartWaitsForAStart, TimersFit, EachTimerRunsInItsStates}
use Rattle.session_fsm.proofs.Rows.{row, is_established, up_after, turns, turns_to, ActsWhileOpen, open_after, opens, opens_to, fits, config_stays, IsStill, still, IsStopped, stop_stops, stays_stopped, hold_timer_after}

after-append : (a : SessionView) (xs ys : List Input) → after_all a (xs ++ ys) ≡ after_all (after_all a xs) ys
after-append a [] ys = refl
after-append a (x ∷ xs) ys = after-append (after a x) xs ys

run_front : (a : SessionView) (xs ys : List Input) → IsRunFrom a (xs ++ ys) → IsRunFrom a xs
run_front a [] ys r = tt
run_front a (x ∷ xs) ys r = (r.0, run_front (after a x) xs ys r.1)

run_back : (a : SessionView) (xs ys : List Input) → IsRunFrom a (xs ++ ys) → IsRunFrom (after_all a xs) ys
run_back a [] ys r = r
run_back a (x ∷ xs) ys r = run_back (after a x) xs ys r.1

-- Up and Down in turn
turns-append : (b : Bool) (xs ys : List Action) → TakeTurns b xs → TakeTurns (up_after b xs) ys → TakeTurns b (xs ++ ys)
turns-append b [] ys t u = u
turns-append b (Up ∷ xs) ys t u = (t.0, turns-append true xs ys t.1 u)
turns-append b (Down ∷ xs) ys t u = (t.0, turns-append false xs ys t.1 u)
turns-append b (Dial ∷ xs) ys t u = turns-append b xs ys t u
turns-append b (SendOpen ∷ xs) ys t u = turns-append b xs ys t u
turns-append b (SendAlive ∷ xs) ys t u = turns-append b xs ys t u
turns-append b (SendNotice n ∷ xs) ys t u = turns-append b xs ys t u
turns-append b (SendGiven ∷ xs) ys t u = turns-append b xs ys t u
turns-append b (HangUp ∷ xs) ys t u = turns-append b xs ys t u
turns-append b (Act ∷ xs) ys t u = turns-append b xs ys t u

turns_from : (a : SessionView) (is : List Input) → TakeTurns (is_established a.state) (asked_by_all a is)
turns_from a [] = tt
turns_from a (Event e ∷ is) = turns-append (is_established a.state) (on_event a e).actions (asked_by_all (after a (Event e)) is)
    (turns a.state a e)
    (rw (turns_to a.state a e) (turns_from (after a (Event e)) is))
turns_from a (Tick ∷ is) = turns_from (ticked a) is
turns_from a (UpdateSent ∷ is) = turns_from (kept_alive a) is

pub up_and_down : UpAndDownTakeTurns
up_and_down config is r = turns_from (opening config) is

-- UPDATEs are acted on only between Up and the next hanging up
open-append : (b : Bool) (xs ys : List Action) → ActsWhileOpen b xs → ActsWhileOpen (open_after b xs) ys → ActsWhileOpen b (xs ++ ys)
open-append b [] ys t u = u
open-append b (Act ∷ xs) ys t u = (t.0, open-append b xs ys t.1 u)
open-append b (Up ∷ xs) ys t u = open-append true xs ys t u
open-append b (HangUp ∷ xs) ys t u = open-append false xs ys t u
open-append b (Dial ∷ xs) ys t u = open-append b xs ys t u
open-append b (SendOpen ∷ xs) ys t u = open-append b xs ys t u
open-append b (SendAlive ∷ xs) ys t u = open-append b xs ys t u
open-append b (SendNotice n ∷ xs) ys t u = open-append b xs ys t u
open-append b (SendGiven ∷ xs) ys t u = open-append b xs ys t u
open-append b (Down ∷ xs) ys t u = open-append b xs ys t u

open_from : (a : SessionView) (is : List Input) → ActsWhileOpen (is_established a.state) (asked_by_all a is)
open_from a [] = tt
open_from a (Event e ∷ is) = open-append (is_established a.state) (on_event a e).actions (asked_by_all (after a (Event e)) is)
    (opens a.state a e)
    (rw (opens_to a.state a e) (open_from (after a (Event e)) is))
open_from a (Tick ∷ is) = open_from (ticked a) is
open_from a (UpdateSent ∷ is) = open_from (kept_alive a) is

open_rest : (b : Bool) (xs ys : List Action) → ActsWhileOpen b (xs ++ ys) → ActsWhileOpen (open_after b xs) ys
open_rest b [] ys t = t
open_rest b (Act ∷ xs) ys t = open_rest b xs ys t.1
open_rest b (Up ∷ xs) ys t = open_rest true xs ys t
open_rest b (HangUp ∷ xs) ys t = open_rest false xs ys t
open_rest b (Dial ∷ xs) ys t = open_rest b xs ys t
open_rest b (SendOpen ∷ xs) ys t = open_rest b xs ys t
open_rest b (SendAlive ∷ xs) ys t = open_rest b xs ys t
open_rest b (SendNotice n ∷ xs) ys t = open_rest b xs ys t
open_rest b (SendGiven ∷ xs) ys t = open_rest b xs ys t
open_rest b (Down ∷ xs) ys t = open_rest b xs ys t

contains_behind : (x y : Action) (ys : List Action) → Contains ys x → Contains (y ∷ ys) x
contains_behind x y ys h = (suc h.0, omega (arith, h.1), h.2)

up_between : (between later : List Action) → ActsWhileOpen false (between ++ Act ∷ later) → Contains between Up
up_between [] later t = absurd (cc (t.0))
up_between (Act ∷ xs) later t = absurd (cc (t.0))
up_between (Up ∷ xs) later t = (0, omega arith, refl)
up_between (Dial ∷ xs) later t = contains_behind Up (Dial) xs (up_between xs later t)
up_between (SendOpen ∷ xs) later t = contains_behind Up (SendOpen) xs (up_between xs later t)
up_between (SendAlive ∷ xs) later t = contains_behind Up (SendAlive) xs (up_between xs later t)
up_between (SendNotice n ∷ xs) later t = contains_behind Up (SendNotice n) xs (up_between xs later t)
up_between (SendGiven ∷ xs) later t = contains_behind Up (SendGiven) xs (up_between xs later t)
up_between (Down ∷ xs) later t = contains_behind Up (Down) xs (up_between xs later t)
up_between (HangUp ∷ xs) later t = contains_behind Up (HangUp) xs (up_between xs later t)

pub nothing_acted_on : NothingIsActedOnAfterAClose
nothing_acted_on config is before between later r e =
    let all = open_from (opening config) is in
    let split : actions_of config is ≡ before ++ (HangUp ∷ (between ++ Act ∷ later)) = e ∙ append_assoc before (HangUp ∷ between) (Act ∷ later) in
    up_between between later (open_rest false before (HangUp ∷ (between ++ Act ∷ later)) (rw split at all))

-- the timers fit the state
fits_tick : (st : State) (a : SessionView) → TimersFit st a → TimersFit st (ticked a)
fits_tick st a f = grind arith

fits_sent : (st : State) (a : SessionView) → st ≡ Established → TimersFit st a → TimersFit st (kept_alive a)
fits_sent st a e f = grind arith

fits_after : (a : SessionView) (i : Input) → May a i → TimersFit a.state a → TimersFit (after a i).state (after a i)
fits_after a (Event e) m f = fits a.state a e f
fits_after a Tick m f = fits_tick a.state a f
fits_after a UpdateSent m f = fits_sent a.state a m f

fits_from : (a : SessionView) (is : List Input) → IsRunFrom a is → TimersFit a.state a → TimersFit (after_all a is).state (after_all a is)
fits_from a [] r f = f
fits_from a (i ∷ is) r f = fits_from (after a i) is r.1 (fits_after a i r.0 f)

pub timers_fit : EachTimerRunsInItsStates
timers_fit config is r = fits_from (opening config) is r.1 (refl, refl, refl)

-- the settings stay
config_after : (a : SessionView) (is : List Input) → (after_all a is).config ≡ a.config
config_after a [] = refl
config_after a (Event e ∷ is) = config_after (after a (Event e)) is ∙ config_stays a.state a e
config_after a (Tick ∷ is) = config_after (ticked a) is
config_after a (UpdateSent ∷ is) = config_after (kept_alive a) is

-- hold time 0
still_runs_out : (a : SessionView) → IsStill a → runs_out a ≡ None
still_runs_out a s = rw (s.hold_timer, s.keepalive_timer, s.connect_retry_timer, s.restart_timer) refl

third_of_none : (n : ℕ) → n ≡ 0 → n / 3 ≡ 0
third_of_none n e = rw e refl

still_after : (a : SessionView) (i : Input) → IsConfirmed a.state → IsConfirmed (after a i).state → IsStill a → IsStill (after a i)
still_after a (Event e) from to s = still a.state a e from to s
still_after a Tick from to s = record {
  hold_time = s.hold_time;
  connect_retry_timer = rw (s.connect_retry_timer) refl;
  hold_timer = rw (s.hold_timer) refl;
  keepalive_timer = rw (s.keepalive_timer) refl;
  restart_timer = rw (s.restart_timer) refl;
}
still_after a UpdateSent from to s = record {
  hold_time = s.hold_time;
  connect_retry_timer = s.connect_retry_timer;
  hold_timer = s.hold_timer;
  keepalive_timer = third_of_none a.hold_time s.hold_time;
  restart_timer = s.restart_timer;
}

confirmed_first : (a : SessionView) (is : List Input) → StaysConfirmed a is → IsConfirmed a.state
confirmed_first a [] c = c
confirmed_first a (i ∷ is) c = c.0

still_from : (a : SessionView) (is : List Input) → StaysConfirmed a is → IsStill a → IsStill (after_all a is)
still_from a [] c s = s
still_from a (i ∷ is) c s = still_from (after a i) is c.1 (still_after a i c.0 (confirmed_first (after a i) is c.1) s)

still_opened : (a : SessionView) (received : ℕ) → TimersFit OpenSent a → (a.config.hold ≡ 0) ⊎ (received ≡ 0) → IsStill (row OpenSent a (BgpOpen received)).session
still_opened a received f h =
    let none : min a.config.hold received ≡ 0 = elim h [ inl e ↦ omega (arith, e) | inr e ↦ omega (arith, e) ] in
    record { hold_time = none; connect_retry_timer = f.0; hold_timer = none; keepalive_timer = third_of_none (min a.config.hold received) none; restart_timer = f.2 }

pub never_expires : HoldTimeZeroNeverExpires
never_expires config before later received r state zeros stays =
    let a = session_after config before in
    let came : Input = Event (BgpOpen received) in
    let fit = fits_from (opening config) before (run_front (opening config) before (came ∷ later) r.1) (refl, refl, refl) in
    let fit_sent : TimersFit OpenSent a = subst (λ st. TimersFit st a) state fit in
    let hold : (a.config.hold ≡ 0) ⊎ (received ≡ 0) = rw (config_after (opening config) before) zeros in
    let still_now : IsStill (after a came) = subst (λ st. IsStill (row st a (BgpOpen received)).session) (sym state) (still_opened a received fit_sent hold) in
    let stays_now : StaysConfirmed (after a came) later = subst (λ s. StaysConfirmed s later) (after-append (opening config) before (came ∷ [])) stays in
    rw (after-append (opening config) before (came ∷ later)) (still_runs_out (after_all (after a came) later) (still_from (after a came) later stays_now still_now))

-- how long the peer has been silent
abbrev Knows : List Input → SessionView → Type 0
Knows past a = (a.hold_timer ≡ 0)
    ⊎ ((before : List Input) × (silence : List Input) × (past ≡ before ++ silence) × HearsNothing silence × (seconds silence + a.hold_timer ≡ patience a.state a.hold_time))

seconds-push : (is : List Input) (i : Input) → seconds (is ++ i ∷ []) ≡ seconds is + seconds (i ∷ [])
seconds-push [] i = omega arith
seconds-push (Event e ∷ is) i = seconds-push is i
seconds-push (Tick ∷ is) i = omega (arith, seconds-push is i)
seconds-push (UpdateSent ∷ is) i = seconds-push is i

hears-push : (is : List Input) (i : Input) → HearsNothing is → i ≢ Event KeepAliveMsg → i ≢ Event UpdateMsg → HearsNothing (is ++ i ∷ [])
hears-push [] i h k u = (k, u, tt)
hears-push (x ∷ is) i h k u = (h.0, h.1, hears-push is i h.2 k u)

-- the HoldTimer goes on
goes_on : (past : List Input) (a b : SessionView) (i : Input) → i ≢ Event KeepAliveMsg → i ≢ Event UpdateMsg
    → (a.hold_timer ≡ 0 → b.hold_timer ≡ 0) → ((a.hold_timer ≡ 0 → ⊥) → seconds (i ∷ []) + b.hold_timer ≡ a.hold_timer)
    → patience b.state b.hold_time ≡ patience a.state a.hold_time → Knows past a → Knows (past ++ i ∷ []) b
goes_on past a b i k u stopped less same (inl z) = inl (stopped z)
goes_on past a b i k u stopped less same (inr h) = elim (cases_eq a.hold_timer 0) [
  | inl z ↦ inl (stopped z)
  | inr n ↦ inr (
    h.0,
    h.1 ++ i ∷ [],
    ap (λ x. x ++ i ∷ []) h.2 ∙ append_assoc h.0 h.1 (i ∷ []),
    hears-push h.1 i h.3 k u,
    omega (arith, seconds-push h.1 i, less n, same, h.4),
  )
]

knows_after : (past : List Input) (a : SessionView) (i : Input) → TimersFit a.state a → Knows past a → Knows (past ++ i ∷ []) (after a i)
knows_after past a (Event e) f h = elim (hold_timer_after a.state a e f) [
  | inl z ↦ inl z
  | inr other ↦ elim other [
    | inl kept ↦ goes_on past a (on_event a e).session (Event e) (λ q. kept.2 (cc q)) (λ q. kept.3 (cc q))
        (λ z. kept.0 ∙ z) (λ n. omega (arith, kept.0)) kept.1 h
    | inr set ↦ inr (past ++ Event e ∷ [], [], sym (append-nil (past ++ Event e ∷ [])), tt, omega (arith, set))
  ]
]
knows_after past a Tick f h = goes_on past a (ticked a) Tick (λ q. cc q) (λ q. cc q) (λ z. omega (arith, z)) (λ n. omega (arith, n)) refl h
knows_after past a UpdateSent f h = goes_on past a (kept_alive a) UpdateSent (λ q. cc q) (λ q. cc q) (λ z. z) (λ n. omega arith) refl h

knows_from : (past : List Input) (a : SessionView) (is : List Input) → IsRunFrom a is → TimersFit a.state a → Knows past a → Knows (past ++ is) (after_all a is)
knows_from past a [] r f h = rw append-nil h
knows_from past a (i ∷ is) r f h = rw (← append_assoc past (i ∷ []) is)
    (knows_from (past ++ i ∷ []) (after a i) is r.1 (fits_after a i r.0 f) (knows_after past a i f h))

hold_is_first : (b c d e : Bool) → cond b (Some HoldTimerExpires) (cond c (Some KeepaliveTimerExpires) (cond d (Some ConnectRetryTimerExpires) (cond e (Some AutomaticStart) None))) ≡ Some HoldTimerExpires → b ≡ true
hold_is_first b c d e h = grind arith

pub hold_timer_expires : HoldTimerExpiresAfterSilence
hold_timer_expires config is r e =
    let a = session_after config is in
    let one : a.hold_timer ≡ 1 = eqb-true a.hold_timer 1 (hold_is_first (a.hold_timer == 1) (a.keepalive_timer == 1) (a.connect_retry_timer == 1) (a.restart_timer == 1) e) in
    elim (knows_from [] (opening config) is r.1 (refl, refl, refl) (inl refl)) [
      | inl z ↦ absurd (omega (arith, one, z))
      | inr h ↦ (h.0, h.1, h.2, h.3, omega (arith, h.4, one))
    ]

-- stopped by hand
stopped_after : (a : SessionView) (i : Input) → May a i → i ≢ Event ManualStart → i ≢ Event AutomaticStart → IsStopped a → IsStopped (after a i)
stopped_after a (Event e) may m s h = subst (λ st. IsStopped (row st a e).session) (sym h.state)
    (stays_stopped a e (λ q. m (ap Event q)) (λ q. s (ap Event q))
    (record { state = refl; connect_retry_timer = h.connect_retry_timer; hold_timer = h.hold_timer; keepalive_timer = h.keepalive_timer; restart_timer = h.restart_timer }))
stopped_after a Tick may m s h = record {
  state = h.state;
  connect_retry_timer = rw (h.connect_retry_timer) refl;
  hold_timer = rw (h.hold_timer) refl;
  keepalive_timer = rw (h.keepalive_timer) refl;
  restart_timer = rw (h.restart_timer) refl;
}
stopped_after a UpdateSent may m s h = let no : Idle ≡ Established = sym h.state ∙ may in absurd (cc no)

stopped_from : (a : SessionView) (is : List Input) → IsRunFrom a is → NeverStarts is → IsStopped a → IsStopped (after_all a is)
stopped_from a [] r n h = h
stopped_from a (i ∷ is) r n h = stopped_from (after a i) is r.1 n.2 (stopped_after a i r.0 n.0 n.1 h)

pub restart_waits : RestartWaitsForAStart
restart_waits config before later r never =
    let a = session_after config before in
    let stop : Input = Event ManualStop in
    let fit = fits_from (opening config) before (run_front (opening config) before (stop ∷ later) r.1) (refl, refl, refl) in
    let rest = run_back (opening config) before (stop ∷ later) r.1 in
    let h = stopped_from (after a stop) later rest.1 never (stop_stops a.state a fit) in
    rw (after-append (opening config) before (stop ∷ later)) (h.state, h.restart_timer, rw (h.hold_timer, h.keepalive_timer, h.connect_retry_timer, h.restart_timer) refl)
