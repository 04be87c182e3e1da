-- The handling of a message or a fault: how it changes a side, the tables, and what is recorded.
-- s t are a side before and behind, v a router's number; old and new are tables.
use Rattle.std.specs.Prelude.{ℕ, ◌≡◌, Bool, cond, Option, None, Some, IfOk}
use Rattle.bgp_codec.specs.Spelling.{IsWritable}
use Rattle.bgp_codec.specs.declared.message.Message.{Message}
use Rattle.bgp_codec.specs.declared.message.Message.TheVariants.{UpdateMsg}
use Rattle.bgp_codec.specs.declared.rule.Rule.{Rule}
use Rattle.bgp_codec.specs.declared.update.Update.{Update}
use Rattle.rib_tables.specs.Owners.{RibView, HearsUpdate}
use Rattle.snap_marker.specs.declared.part.Part.{Part}
use Rattle.snap_marker.specs.Parts.{copy_for}
use Rattle.snap_marker.specs.Recordings.{Snapshots, acted_on, closed}
use Rattle.router_model.specs.Sides.{Side, AtHand, NoMessage, HasFault, HasUpdate, Draft, carried, at_hand, front, without_front, draft_message}
use Rattle.router_model.specs.Step.{close_at}
use Rattle.router_core.specs.Following.{standing, Followed}

-- the UPDATE at hand, if it is acted on
abbrev pub update_acted : Bool → AtHand → Option Update
update_acted acts NoMessage = None
update_acted acts (HasFault fault) = None
update_acted acts (HasUpdate update) = cond acts (Some update) None

-- a copy of the UPDATE, if its channel is being recorded
abbrev pub copy_where : Option Part → ℕ → Option Update → Option Update
copy_where unfinished v None = None
copy_where unfinished v (Some update) = copy_for unfinished v update

-- the tables take the UPDATE
abbrev pub Hears : RibView → RibView → ℕ → Option Update → Type 0
Hears old new v None = new ≡ old
Hears old new v (Some update) = HearsUpdate old new v update

-- the UPDATE joins the recorded channel
abbrev pub seen_where : ℕ → Option Update → Snapshots → Snapshots
seen_where v None snapshots = snapshots
seen_where v (Some update) snapshots = acted_on v (UpdateMsg update) snapshots

-- the front of a side, read under this rule, is handled: its draft is carried out, the tables take the UPDATE and follow the session, and what is recorded sees both
pub record HandlesFront (own_open : Message) (rule : Rule) (v : ℕ) (s t : Side) (old new : RibView)
    (snapshots behind : Snapshots) : Type 0 where
  pub hand : AtHand
  pub draft : Draft
  pub between : RibView
  pub hand_is : hand ≡ at_hand (front rule s.held)
  pub draft_is : draft ≡ draft_message own_open (front rule s.held) s
  pub side : t ≡ carried hand (without_front s) draft
  pub hears : Hears old between v (update_acted draft.acts hand)
  pub follows : Followed between new v (standing s) (standing t)
  pub writable : IfOk (front rule s.held) (IsWritable rule)
  pub sees : behind ≡ seen_where v (update_acted draft.acts hand) (closed (close_at v draft.left) snapshots)
