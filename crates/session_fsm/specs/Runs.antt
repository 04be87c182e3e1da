-- Runs of a session: every list of events, ticks and UPDATEs sent.
use Rattle.std.specs.Prelude.{ℕ, ◌+◌, ◌≡◌, List, [], ◌∷◌, ◌++◌}
use Rattle.session_fsm.specs.declared.config.SessionConfig.{SessionConfig}
use Rattle.session_fsm.specs.declared.state.State.TheVariants.{Established}
use Rattle.session_fsm.specs.declared.event.FsmEvent.{FsmEvent}
use Rattle.session_fsm.specs.declared.actions.Action.{Action}
use Rattle.session_fsm.specs.Table.{SessionView, opening, on_event, kept_alive, IsGoodEvent}
use Rattle.bgp_values.specs.Ranges.{IsHoldTime}
use Rattle.session_fsm.specs.Timers.{ticked}

-- what happens to a session: an event, a second, an UPDATE that its router sends
pub data Input : Type 0 where
  Event : (event : FsmEvent) → Input
  Tick : Input
  UpdateSent : Input

-- when it may happen: hold times are good, and UPDATEs are sent in Established alone
abbrev pub May : SessionView → Input → Type 0
May a (Event e) = IsGoodEvent e
May a Tick = Unit {0}
May a UpdateSent = a.state ≡ Established

abbrev pub after : SessionView → Input → SessionView
after a (Event e) = (on_event a e).session
after a Tick = ticked a
after a UpdateSent = kept_alive a

abbrev pub asked : SessionView → Input → List Action
asked a (Event e) = (on_event a e).actions
asked a Tick = []
asked a UpdateSent = []

abbrev pub IsRunFrom : SessionView → List Input → Type 0
IsRunFrom a [] = Unit {0}
IsRunFrom a (i ∷ is) = May a i × IsRunFrom (after a i) is

abbrev pub after_all : SessionView → List Input → SessionView
after_all a [] = a
after_all a (i ∷ is) = after_all (after a i) is

-- all that the session asked for, in order
abbrev pub asked_by_all : SessionView → List Input → List Action
asked_by_all a [] = []
asked_by_all a (i ∷ is) = asked a i ++ asked_by_all (after a i) is

-- a run from the opening, the session after it, and all that it asked for
abbrev pub IsRun : SessionConfig → List Input → Type 0
IsRun config is = IsHoldTime config.hold × IsRunFrom (opening config) is

abbrev pub session_after : SessionConfig → List Input → SessionView
session_after config is = after_all (opening config) is

abbrev pub actions_of : SessionConfig → List Input → List Action
actions_of config is = asked_by_all (opening config) is

-- how many seconds pass
abbrev pub seconds : List Input → ℕ
seconds [] = 0
seconds (Event e ∷ is) = seconds is
seconds (Tick ∷ is) = seconds is + 1
seconds (UpdateSent ∷ is) = seconds is
