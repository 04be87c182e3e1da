-- Events that come to all peers of a router at once.
-- x y are a router before and behind, v a router's number, p a peer, j its place, s a side, a a draft, D the draft of a
-- side, c a command.
use Rattle.std.specs.Prelude.{ℕ, ◌≡◌, ◌||◌, Bool, false, List, [], ◌∷◌, Option, None, is_some, get_or, set}
use Rattle.bgp_codec.specs.declared.message.Message.{Message}
use Rattle.session_fsm.specs.declared.event.FsmEvent.TheVariants.{ManualStart, ManualStop}
use Rattle.session_fsm.specs.Timers.{ticked, runs_out}
use Rattle.snap_marker.specs.Recordings.{closed}
use Rattle.snap_marker.specs.Parts.{snapshots_of}
use Rattle.router_model.specs.Sides.{Side, Draft, NoMessage, carried, draft_event, draft_reset, draft_second}
use Rattle.router_model.specs.declared.command.Command.{Command}
use Rattle.router_model.specs.declared.command.Command.TheVariants as command
use Rattle.router_model.specs.Step.{close_at, or_first}
use Rattle.router_side.specs.declared.draft.SideDraft.{SideDraft}
use Rattle.router_side.specs.Drafts.{draft}
use Rattle.router_side.specs.SideOf.{side, HasRoom}
use Rattle.router_core.specs.declared.peers.Peer.{Peer}
use Rattle.router_core.specs.declared.router.carry.SessionEvent.{SessionEvent}
use Rattle.router_core.specs.declared.router.carry.SessionEvent.TheVariants as event
use Rattle.router_core.specs.Views.{RouterView}
use Rattle.router_core.specs.Recorded.{Become}

-- the draft of a side for such an event
abbrev pub draft_by : SessionEvent → Message → Side → Draft
draft_by event.Start own_open s = draft_event own_open s ManualStart
draft_by event.Stop own_open s = draft_event own_open s ManualStop
draft_by event.Reset own_open s = draft_reset own_open s
draft_by event.Second own_open s = draft_second own_open s

-- the command to a session whose event it is
abbrev pub IsCommanded : SessionEvent → ℕ → Command → Type 0
IsCommanded event.Start v c = c ≡ command.Start v
IsCommanded event.Stop v c = c ≡ command.Stop v
IsCommanded event.Reset v c = c ≡ command.Reset v
IsCommanded event.Second v c = ⊥

-- a dial of some side would pass the greatest incarnation
abbrev pub overflow_in : (Side → Draft) → List Peer → Bool
overflow_in D [] = false
overflow_in D (p ∷ ps) = (D (side p.side)).overflows || overflow_in D ps

-- a timer of some session runs out in the next second
abbrev pub runs_out_in : List Peer → Bool
runs_out_in [] = false
runs_out_in (p ∷ ps) = is_some (runs_out (side p.side).session) || runs_out_in ps

-- the timers of a session have one second less left
abbrev pub counted_down : Side → Side
counted_down s = record s { session = ticked s.session }

-- this is the draft of a side, which has room for it
abbrev pub IsReady : Message → (Side → Draft) → Peer → SideDraft → Type 0
IsReady own_open D p a = (draft own_open NoMessage a ≡ D (side p.side)) × HasRoom own_open None a p.side

-- these are the drafts of these sides
abbrev pub AreReady : Message → (Side → Draft) → List Peer → List SideDraft → Type 0
AreReady own_open D [] [] = Unit {0}
AreReady own_open D (p ∷ ps) (a ∷ others) = IsReady own_open D p a × AreReady own_open D ps others
AreReady own_open D [] (a ∷ others) = ⊥
AreReady own_open D (p ∷ ps) [] = ⊥

-- the first of the peers whose session leaves Established
abbrev pub first_left : (Side → Draft) → List Peer → Option (ℕ × ℕ)
first_left D [] = None
first_left D (p ∷ ps) = or_first (close_at p.number (D (side p.side)).left) (first_left D ps)

-- the sides and what is recorded changed, and the tables by the sessions
pub record IsRest (x y : RouterView) : Type 0 where
  pub net : y.net ≡ x.net
  pub number : y.number ≡ x.number
  pub own_open : y.own_open ≡ x.own_open
  pub kept : y.tables.kept ≡ x.tables.kept
  pub originated : y.tables.originated ≡ x.tables.originated
  pub stamp : y.stamp ≡ x.stamp

-- the side of the peer at a place is moved
pub record MovesSide (x : RouterView) (j : ℕ) (D : Side → Draft) (y : RouterView) : Type 0 where
  pub peer : Peer
  pub peers : y.peers ≡ set x.peers j peer
  pub number : (p : Peer) → peer.number ≡ (get_or x.peers j p).number
  pub moved : (p : Peer) → side peer.side ≡ carried NoMessage (side (get_or x.peers j p).side) (D (side (get_or x.peers j p).side))
  pub marks : (p : Peer) → snapshots_of y.marks ≡ closed (close_at (get_or x.peers j p).number (D (side (get_or x.peers j p).side)).left) (snapshots_of x.marks)
  pub rest : IsRest x y

-- all sides are moved, rising
pub record MovesAll (x : RouterView) (D : Side → Draft) (y : RouterView) : Type 0 where
  pub peers : Become (λ s. carried NoMessage s (D s)) x.peers y.peers
  pub marks : snapshots_of y.marks ≡ closed (first_left D x.peers) (snapshots_of x.marks)
  pub rest : IsRest x y
