-- A draft of the code as a draft of the definitions.
-- a is a draft, h what is at hand.
use Rattle.std.specs.Prelude.{false, [], None}
use Rattle.session_fsm.specs.Table.{SessionView}
use Rattle.link_epoch.specs.Ends.{LinkView}
use Rattle.bgp_codec.specs.declared.message.Message.{Message}
use Rattle.router_side.specs.declared.draft.SideDraft.{SideDraft}
use Rattle.router_side.specs.declared.brought.Brought.{Brought}
use Rattle.router_side.specs.declared.brought.Brought.TheVariants as given
use Rattle.router_model.specs.Sides.{AtHand, NoMessage, HasFault, HasUpdate, Draft}
use Rattle.router_side.specs.Sayings.{told_of, all_entries}

abbrev pub hand : Brought → AtHand
hand given.Nothing = NoMessage
hand (given.Fault notice) = HasFault (record { code = notice.code; sub = notice.sub; extra = notice.extra })
hand (given.Update update) = HasUpdate update

abbrev pub draft : Message → AtHand → SideDraft → Draft
draft own_open h a = record {
  session = a.session;
  link = a.link;
  says = all_entries own_open (told_of h) a.says;
  drops = a.drops;
  acts = a.acts;
  left = a.left;
  overflows = a.overflows;
}

-- a draft in which nothing is done
abbrev pub side_draft_of : SessionView → LinkView → SideDraft
side_draft_of session link = record {
  session = session;
  link = link;
  says = [];
  drops = false;
  acts = false;
  left =
      None;
  overflows = false;
}
