-- The history of a side by incarnation: it is empty before the session of an incarnation is Established, and stays so.
-- s is a side, a a draft, h what is at hand, z a sign, n an incarnation.
use Rattle.std.specs.Prelude.{ℕ, ◌≡◌, ◌<◌, ◌≤◌, Bool, true, false, [], ◌⊎◌}
use Rattle.bgp_codec.specs.declared.message.Message.{Message}
use Rattle.link_epoch.specs.declared.link_end.Phase.TheVariants.{Shut}
use Rattle.session_fsm.specs.declared.state.State.{State}
use Rattle.session_fsm.specs.declared.state.State.TheVariants.{Idle, Connect, Active, OpenSent, OpenConfirm}
use Rattle.session_fsm.specs.declared.event.FsmEvent.TheVariants.{ManualStart, ManualStop}
use Rattle.std.specs.Prelude.{Result}
use Rattle.bgp_codec.specs.declared.fault.Fault.{Fault}
use Rattle.link_epoch.specs.declared.link_end.Sign.{Sign}
use Rattle.router_model.specs.Sides.{Side, Draft, AtHand, NoMessage, draft_event, draft_reset, draft_second, draft_sign, draft_message, at_hand, without_front, carried, is_established, is_up}

-- the session is on its way to Established
abbrev pub is_opening : State → Bool
is_opening Connect = true
is_opening OpenSent = true
is_opening OpenConfirm = true
is_opening _ = false

-- the session has no incarnation of its link
abbrev pub is_away : State → Bool
is_away Idle = true
is_away Active = true
is_away _ = false

-- nothing was acted on or sent in this incarnation
abbrev pub IsUnsaid : Side → ℕ → Type 0
IsUnsaid s n = (s.acted n ≡ []) × (s.sent n ≡ [])

-- nothing is acted on or sent before the session of an incarnation is Established
pub record IsFresh (s : Side) : Type 0 where
  pub later : (n : ℕ) → s.link.epoch < n → IsUnsaid s n
  pub opening : is_opening s.session.state ≡ true → IsUnsaid s s.link.epoch
  pub away : is_away s.session.state ≡ true → s.link.phase ≡ Shut

-- a session that comes up, or is up in another incarnation than before, has said and heard nothing in it
abbrev pub ComesUpUnsaid : Side → Draft → Type 0
ComesUpUnsaid s a = is_up (carried NoMessage s a) ≡ true → (is_up s ≡ false) ⊎ (s.link.epoch < a.link.epoch) → IsUnsaid s a.link.epoch

-- a draft that leaves a side fresh
pub record KeepsFresh (s : Side) (h : AtHand) (a : Draft) : Type 0 where
  pub fresh : IsFresh (carried h s a)
  pub up : ComesUpUnsaid s a
  pub onward : s.link.epoch ≤ a.link.epoch

-- a start, a stop, a reset and a second leave a side fresh, if no dial passes the greatest incarnation
pub record EventsKeepFresh (own_open : Message) (s : Side) : Type 0 where
  pub start : (draft_event own_open s ManualStart).overflows ≡ false
      → KeepsFresh s NoMessage (draft_event own_open s ManualStart)
  pub stop : KeepsFresh s NoMessage (draft_event own_open s ManualStop)
  pub reset : (draft_reset own_open s).overflows ≡ false → KeepsFresh s NoMessage (draft_reset own_open s)
  pub second : (draft_second own_open s).overflows ≡ false → KeepsFresh s NoMessage (draft_second own_open s)

abbrev pub SessionsKeepFresh : Type 0
SessionsKeepFresh = (own_open : Message) (s : Side) → IsFresh s → EventsKeepFresh own_open s

-- a Dial or a Shut of the peer that is taken leaves a side fresh, if no dial passes the greatest incarnation
abbrev pub SignsKeepFresh : Type 0
SignsKeepFresh =
    (own_open : Message) (s : Side) (z : Sign) → IsFresh s → (draft_sign own_open s z).overflows ≡ false
    → KeepsFresh s NoMessage (draft_sign own_open s z)

-- a draft that acts on an UPDATE begins and ends in Established, in one incarnation
abbrev pub ActsWhereUp : Side → Draft → Type 0
ActsWhereUp s a = a.acts ≡ true → (is_up s ≡ true) × (is_established a.session.state ≡ true) × (a.link.epoch ≡ s.link.epoch)

-- a message or a fault that is handled leaves a side fresh, and dials nothing
pub record HandlingKeepsFresh (own_open : Message) (read : Result Message Fault) (s : Side) : Type 0 where
  pub fits : (draft_message own_open read s).overflows ≡ false
  pub fresh : IsFresh (carried (at_hand read) (without_front s) (draft_message own_open read s))
  pub up : ComesUpUnsaid s (draft_message own_open read s)
  pub onward : s.link.epoch ≤ (draft_message own_open read s).link.epoch
  pub acts : ActsWhereUp s (draft_message own_open read s)

abbrev pub MessagesKeepFresh : Type 0
MessagesKeepFresh =
    (own_open : Message) (read : Result Message Fault) (s : Side) → IsFresh s → HandlingKeepsFresh own_open read s
