-- How the steps of one router change its recordings of snapshots.
-- g is a setting, x y a router before and behind, u v w routers' numbers, s a side, e an event, f one of a session, h
-- what is at hand, z a sign, k a snapshot's number, n an incarnation, b a Bool.
use Rattle.std.specs.Prelude.{ℕ, ◌≡◌, ◌<◌, ◌≤◌, Bool, true, false, ◌++◌, [], ◌∷◌, Option, None, Some}
use mathlib.Core.Logic.{◌⊎◌}
use Rattle.bgp_codec.specs.declared.message.Message.{Message}
use Rattle.link_epoch.specs.declared.link_end.Sign.{Sign}
use Rattle.session_fsm.specs.declared.event.FsmEvent.{FsmEvent}
use Rattle.ranked_policy.specs.Plans.{IsNetwork}
use Rattle.run_model.specs.Offers.{Finished, Lost, Closed, IsIn}
use Rattle.snap_marker.specs.Recordings.{RouterPart, Recording, Snapshots}
use Rattle.router_model.specs.Settings.{Setting, linked}
use Rattle.router_model.specs.Sides.{Side, AtHand, react, draft_of, is_established, is_up, draft_event, draft_reset, draft_second, draft_sign}
use Rattle.router_model.specs.State.{Router}
use Rattle.router_model.specs.Step.{RouterEvent, Step}

-- k is the number of the unfinished recording
abbrev pub IsRecording : Snapshots → ℕ → Type 0
IsRecording snapshots k = (recording : Recording) × (snapshots.unfinished ≡ Some recording) × (recording.number ≡ k)

-- the session with v leaves Established in a step from x to y, and v is the least linked peer whose session does
pub record LeavesFirst (g : Setting) (u v : ℕ) (x y : Router) : Type 0 where
  pub linked_peer : linked g.net u v ≡ true
  pub was : is_up (x.sides v) ≡ true
  pub is : is_up (y.sides v) ≡ false
  pub least : (w : ℕ) → w < v → linked g.net u w ≡ true → is_up (x.sides w) ≡ true → is_up (y.sides w) ≡ true

-- if a session leaves Established while k is recorded, the loss of k is queued, by that peer and in that incarnation,
-- and nothing is recorded any more
abbrev pub LeavingLosesTheRecording : Type 0
LeavingLosesTheRecording =
    (g : Setting) → IsNetwork g.net → (u v k : ℕ) (x y : Router) (e : RouterEvent) → Step g u x e y → IsRecording x.snapshots k → LeavesFirst g u v x y
    → (y.snapshots.queue ≡ x.snapshots.queue ++ Lost k v (x.sides v).link.epoch Closed ∷ []) × (y.snapshots.unfinished ≡ None)

-- what is recorded behind a step: what was recorded before it, or a number above the last one
abbrev pub IsNext : Snapshots → Snapshots → ℕ → Type 0
IsNext snapshots behind k = IsRecording snapshots k ⊎ (snapshots.last < k) × (k ≤ behind.last)

-- numbers rise; a recording goes on, or is new; a part that is queued is of the recording before or of a new one, which
-- then ends
pub record GoesOn (snapshots behind : Snapshots) : Type 0 where
  pub rises : snapshots.last ≤ behind.last
  pub records : (k : ℕ) → IsRecording behind k → IsNext snapshots behind k
  pub finishes : (k : ℕ) (part : RouterPart) → IsIn (Finished k part) behind.queue
      → IsIn (Finished k part) snapshots.queue ⊎ (IsNext snapshots behind k × (behind.unfinished ≡ None))

abbrev pub RecordingsGoOn : Type 0
RecordingsGoOn = (g : Setting) (u : ℕ) (x y : Router) (e : RouterEvent) → Step g u x e y → GoesOn x.snapshots y.snapshots

-- ---- what the draft of a session's event leaves

-- the incarnation that is left, by whether the session was up and whether it is up now
abbrev pub left_of : Bool → Bool → ℕ → Option ℕ
left_of true true n = None
left_of true false n = Some n
left_of false b n = None

-- a draft leaves the incarnation exactly where the session was Established and is no more; a reset leaves it if the
-- session was up
pub record LeavesEstablished (own_open : Message) (s : Side) : Type 0 where
  pub met_by : (f : FsmEvent) → (draft_event own_open s f).left
      ≡ left_of (is_up s) (is_established (draft_event own_open s f).session.state) s.link.epoch
  pub reset_is : (draft_reset own_open s).left ≡ left_of (is_up s) false s.link.epoch
  pub second_is : (draft_second own_open s).left
      ≡ left_of (is_up s) (is_established (draft_second own_open s).session.state) s.link.epoch
  pub signed_by : (z : Sign) → (draft_sign own_open s z).left
      ≡ left_of (is_up s) (is_established (draft_sign own_open s z).session.state) s.link.epoch
  pub handled_by : (h : AtHand) (f : FsmEvent)
      → (react own_open h (draft_of s.session s.link) f).left
      ≡ left_of (is_up s) (is_established (react own_open h (draft_of s.session s.link) f).session.state) s.link.epoch

abbrev pub DraftsLeaveEstablished : Type 0
DraftsLeaveEstablished = (own_open : Message) (s : Side) → LeavesEstablished own_open s
