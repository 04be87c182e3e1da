-- The events of a session in the laws of runs that make up a step of one side.
-- s t are a side before and behind, end and far its end and the peer's, twin_side a side in the laws of runs, a a
-- draft, f an event of a session, h what is at hand, m a message, n an incarnation, k a snapshot's number.
use Rattle.std.specs.Prelude.{◌≡◌, ◌≢◌, Bool, true, false, ◌&&◌, ◌||◌, not, List, [], ◌∷◌, ◌++◌, Ok}
use mathlib.Core.Logic.{◌⊎◌}
use Rattle.bgp_codec.specs.declared.message.Message.{Message}
use Rattle.link_epoch.specs.declared.link_end.Phase.TheVariants as phase
use Rattle.run_model.specs.Links.{Entry, Says, End, answers}
use Rattle.run_model.specs.Sessions as model
use Rattle.run_model.specs.Sessions.{SessionEvent, SessionState, Fits, side_after}
use Rattle.run_model.specs.Facts.{EndFacts}
use Rattle.router_model.specs.Sides.{Side, Draft, AtHand, at_hand, carried, without_front, is_up}
use Rattle.router_runs.specs.Reading.{Reads, MayComeAll, sides_after, state_of, model_side}

-- a side is this end, and the peer's end is `far`; what holds of both ends in every run holds of them
pub record Stands (s : Side) (end far : End Message) : Type 0 where
  pub reads : Reads s end
  pub fits : Fits (state_of s.session.state) end
  pub mine : EndFacts end far
  pub theirs : EndFacts far end

-- ---- events that leave Established

abbrev pub is_up_in : SessionState → Bool
is_up_in model.Established = true
is_up_in _ = false

abbrev pub closes : SessionEvent Message → Bool
closes (model.Closes ms) = true
closes _ = false

-- one of these events closes a session that is up
abbrev pub leaves_in : model.Side Message → List (SessionEvent Message) → Bool
leaves_in twin_side [] = false
leaves_in twin_side (f ∷ fs) = (is_up_in twin_side.state && closes f) || leaves_in (side_after twin_side f) fs

-- events of a session lead from one side to the other, and append and take these entries
pub record Does (s t : Side) (said past : List (Entry Message)) (end far : End Message) : Type 0 where
  pub events : List (SessionEvent Message)
  pub may : MayComeAll (model_side s end) far events
  pub state : (sides_after (model_side s end) events).state ≡ state_of t.session.state
  pub stands : Stands t (sides_after (model_side s end) events).end far
  pub appends : (sides_after (model_side s end) events).end.appended ≡ end.appended ++ said
  pub takes : (sides_after (model_side s end) events).end.taken ≡ end.taken ++ past
  pub leaves : leaves_in (model_side s end) events ≡ (is_up s && not (is_up t))

-- a draft that takes nothing: it stays joined and drops nothing, or joins by a dial of its own, or is not joined
pub record Row (s : Side) (h : AtHand) (a : Draft) (end far : End Message) : Type 0 where
  pub does : Does s (carried h s a) a.says [] end far
  pub joined : a.link.phase ≡ phase.Joined
      → ((s.link.phase ≡ phase.Joined) × (a.link.epoch ≡ s.link.epoch) × (a.drops ≡ false))
      ⊎ ((s.link.phase ≢ phase.Joined) × (answers end ≡ true))
  pub apart : a.link.phase ≢ phase.Joined → (s.link.phase ≢ phase.Joined) ⊎ (a.drops ≡ true)

-- a draft that handles a message: it stays joined and drops nothing else, or drops what is held
pub record Hand (s : Side) (m : Message) (a : Draft) (end far : End Message) : Type 0 where
  pub does : Does s (carried (at_hand (Ok m)) (without_front s) a) a.says (Says s.link.epoch m ∷ []) end far
  pub joined : a.link.phase ≡ phase.Joined → (a.link.epoch ≡ s.link.epoch) × (a.drops ≡ false)
  pub apart : a.link.phase ≢ phase.Joined → a.drops ≡ true
