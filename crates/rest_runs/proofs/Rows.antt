-- The rows of the session table that a message or a failed connection meets: a session says something only as it goes
-- on towards its end.
use Rattle.std.proofs.Common.{◌≡◌, ℕ, ◌+◌, ◌*◌, ◌≤◌, ◌==◌, ◌&&◌, Bool, true, false, cond, List, [], ◌∷◌, refl, ap, arith}
use Rattle.std.specs.Prelude.{Ok, Err, Result}
use Rattle.bgp_values.specs.declared.faults.TheConstants.{MESSAGE_HEADER_ERROR, OPEN_MESSAGE_ERROR, UNSUPPORTED_VERSION_NUMBER}
use Rattle.bgp_codec.specs.declared.fault.Fault.{Fault}
use Rattle.bgp_codec.specs.declared.message.Message.{Message}
use Rattle.bgp_codec.specs.declared.message.Message.TheVariants.{OpenMsg, UpdateMsg, NoticeMsg, AliveMsg}
use Rattle.session_fsm.specs.declared.state.State.{State}
use Rattle.session_fsm.specs.declared.state.State.TheVariants.{Idle, Connect, Active, OpenSent, OpenConfirm, Established}
use Rattle.session_fsm.specs.declared.event.FsmEvent.{FsmEvent}
use Rattle.session_fsm.specs.declared.event.FsmEvent.TheVariants as event
use Rattle.session_fsm.specs.declared.actions.Action.{Action}
use Rattle.session_fsm.specs.declared.actions.Action.TheVariants as action
use Rattle.session_fsm.specs.Table.{SessionView, Outcome, on_event, on_state}
use Rattle.router_model.specs.Sides as sides

-- how far a session has to go in its incarnation
abbrev pub height : State → ℕ
height Connect = 5
height OpenSent = 4
height OpenConfirm = 3
height Established = 2
height Active = 1
height Idle = 0

pub height_once : (a b : State) → height a ≡ height b → a ≡ b
height_once a b h = grind arith

-- how many entries these actions append at most
abbrev pub voices : List Action → ℕ
voices [] = 0
voices (action.Dial ∷ xs) = 1 + voices xs
voices (action.SendOpen ∷ xs) = 1 + voices xs
voices (action.SendAlive ∷ xs) = 1 + voices xs
voices (action.SendNotice code ∷ xs) = 1 + voices xs
voices (action.SendGiven ∷ xs) = 1 + voices xs
voices (action.HangUp ∷ xs) = 1 + voices xs
voices (action.Act ∷ xs) = voices xs
voices (action.Up ∷ xs) = voices xs
voices (action.Down ∷ xs) = voices xs

abbrev pub NoDial : List Action → Type 0
NoDial [] = Unit {0}
NoDial (action.Dial ∷ xs) = ⊥
NoDial (action.SendOpen ∷ xs) = NoDial xs
NoDial (action.SendAlive ∷ xs) = NoDial xs
NoDial (action.SendNotice code ∷ xs) = NoDial xs
NoDial (action.SendGiven ∷ xs) = NoDial xs
NoDial (action.HangUp ∷ xs) = NoDial xs
NoDial (action.Act ∷ xs) = NoDial xs
NoDial (action.Up ∷ xs) = NoDial xs
NoDial (action.Down ∷ xs) = NoDial xs

-- an event that a message or a failed connection brings
abbrev pub IsBrought : FsmEvent → Type 0
IsBrought event.ManualStart = ⊥
IsBrought event.ManualStop = ⊥
IsBrought event.AutomaticStart = ⊥
IsBrought event.ConnectRetryTimerExpires = ⊥
IsBrought event.HoldTimerExpires = ⊥
IsBrought event.KeepaliveTimerExpires = ⊥
IsBrought event.TcpCrAcked = ⊥
IsBrought event.TcpConnectionConfirmed = ⊥
IsBrought _ = Unit {0}

-- a row: no dial, and what is said is paid by the height
pub record Falls (s : SessionView) (e : FsmEvent) : Type 0 where
  pub none : NoDial (on_event s e).actions
  pub falls : 2 * height (on_event s e).session.state + voices (on_event s e).actions ≤ 2 * height s.state

abbrev falls_to : ℕ → Outcome → Type 0
falls_to n o = 2 * height o.session.state + voices o.actions ≤ n

row : (st : State) (s : SessionView) (e : FsmEvent) → s.state ≡ st → IsBrought e → falls_to (2 * height st) (on_state st s e)
row Idle s e at is = grind (arith, at, is)
row Connect s e at is = grind (arith, at, is)
row Active s e at is = grind (arith, at, is)
row OpenSent s e at is = grind (arith, at, is)
row OpenConfirm s e at is = grind (arith, at, is)
row Established s e at is = grind (arith, at, is)

undialled : (st : State) (s : SessionView) (e : FsmEvent) → IsBrought e → NoDial (on_state st s e).actions
undialled Idle s e is = grind (arith, is)
undialled Connect s e is = grind (arith, is)
undialled Active s e is = grind (arith, is)
undialled OpenSent s e is = grind (arith, is)
undialled OpenConfirm s e is = grind (arith, is)
undialled Established s e is = grind (arith, is)

pub brought : (s : SessionView) (e : FsmEvent) → IsBrought e → Falls s e
brought s e is = record { none = undialled s.state s e is; falls = row s.state s e refl is }

either : (b : Bool) (e f : FsmEvent) → IsBrought e → IsBrought f → IsBrought (cond b e f)
either true e f x y = x
either false e f x y = y

pub read_is_brought : (read : Result Message Fault) → IsBrought (sides.event_of read)
read_is_brought (Ok (OpenMsg o)) = tt
read_is_brought (Ok (UpdateMsg update)) = tt
read_is_brought (Ok (NoticeMsg notice)) = either ((notice.code == OPEN_MESSAGE_ERROR) && (notice.sub == UNSUPPORTED_VERSION_NUMBER)) event.NotifMsgVerErr event.NotifMsg tt tt
read_is_brought (Ok AliveMsg) = tt
read_is_brought (Err fault) =
    either (fault.code == MESSAGE_HEADER_ERROR) event.BgpHeaderErr (cond (fault.code == OPEN_MESSAGE_ERROR) event.BgpOpenMsgErr event.UpdateMsgErr) tt
    (either (fault.code == OPEN_MESSAGE_ERROR) event.BgpOpenMsgErr event.UpdateMsgErr tt tt)

-- ---- the dial of the peer that an end waits for, and one that it answers

pub joins : (s : SessionView) → s.state ≡ Connect → Falls s event.TcpCrAcked
joins s at =
    let is : on_event s event.TcpCrAcked ≡ on_state Connect s event.TcpCrAcked = ap (λ st. on_state st s event.TcpCrAcked) at in
    let high = ap height at in
    record { none = rw is tt; falls = rw is (omega (arith, high)) }

abbrev pub answered : State → Type 0
answered st = sides.is_connecting st ≡ true

pub record Answers (s : SessionView) : Type 0 where
  pub none : NoDial (on_event s event.TcpConnectionConfirmed).actions
  pub state : (on_event s event.TcpConnectionConfirmed).session.state ≡ OpenSent
  pub voices : voices (on_event s event.TcpConnectionConfirmed).actions ≡ 1

answers_at : (st : State) (s : SessionView) → s.state ≡ st → answered st → Answers s
answers_at Connect s at is =
    let row : on_event s event.TcpConnectionConfirmed ≡ on_state Connect s event.TcpConnectionConfirmed = ap (λ st. on_state st s event.TcpConnectionConfirmed) at in
    record { none = rw row tt; state = rw row refl; voices = rw row refl }
answers_at Active s at is =
    let row : on_event s event.TcpConnectionConfirmed ≡ on_state Active s event.TcpConnectionConfirmed = ap (λ st. on_state st s event.TcpConnectionConfirmed) at in
    record { none = rw row tt; state = rw row refl; voices = rw row refl }
answers_at Idle s at is = absurd cc
answers_at OpenSent s at is = absurd cc
answers_at OpenConfirm s at is = absurd cc
answers_at Established s at is = absurd cc

pub answers : (s : SessionView) → answered s.state → Answers s
answers s is = answers_at s.state s refl is
