-- A side of the code as a side of the definitions, and the room that a change of it needs.
-- s t are sides, a a draft, h what is at hand, m a message, n an incarnation, u v routers' numbers.
use Rattle.std.specs.Prelude.{ℕ, ◌≡◌, ◌≤◌, true, List, [], length, Option, Some}
use Rattle.bgp_values.specs.declared.width.Width.{Width}
use Rattle.bgp_values.specs.declared.messages.TheConstants.{MESSAGE_LIMIT}
use Rattle.bgp_codec.specs.declared.message.Message.{Message}
use Rattle.bgp_codec.specs.declared.rule.Rule.{Rule}
use Rattle.bgp_codec.specs.Spelling.{written}
use Rattle.link_epoch.specs.Ends as links
use Rattle.session_fsm.specs.Table as sessions
use Rattle.session_fsm.specs.declared.config.SessionConfig.{SessionConfig}
use Rattle.run_model.specs.Links.{Says}
use Rattle.outbox.specs.Items.{next_item, left_behind}
use Rattle.router_model.specs.Sides.{Side, AtHand, Draft, appended, at_hand, draft_of, front}
use Rattle.router_side.specs.declared.draft.SideDraft.{SideDraft}
use Rattle.router_side.specs.declared.side.Side.{Side as CodeSide}
use Rattle.router_side.specs.Histories.{history, told_with}
use Rattle.router_side.specs.Sayings.{size_where, all_sizes, update_in, acted_where}

abbrev pub side : CodeSide → Side
side s = record {
  session = s.session;
  link = s.link;
  outbox = s.outbox.passing;
  held = s.framer.octets;
  acted = history (told_with s.width s.acted);
  sent = history (told_with s.width s.sent);
  width = s.width;
}

-- the opening: Idle, and nothing was dialled, said, taken, acted on or sent
abbrev pub side_opening : SessionConfig → Width → Side
side_opening config width = record { session = sessions.opening config; link = links.opening; outbox = []; held = []; acted = λ n. []; sent = λ n. []; width = width }

-- the rule that names a peer, and the router itself
abbrev pub naming : Width → ℕ → ℕ → Rule
naming width u v = record { width = width; peer = Some v; own = Some u }

-- this is at hand with the message or fault in front of these octets, of some peer of some router
abbrev pub IsInFront : Width → List ℕ → AtHand → Type 0
IsInFront width octets h = (u : ℕ) × (v : ℕ) × (h ≡ at_hand (front (naming width u v) octets))

-- a draft can be carried out without memory
pub record HasRoom (own_open : Message) (told : Option Message) (a : SideDraft) (s : CodeSide) : Type 0 where
  pub octets : all_sizes (length (written s.width own_open)) (size_where s.width told) a.says ≤ s.outbox.room
  pub places : length a.says ≤ s.outbox.places
  pub acted : MESSAGE_LIMIT ≤ s.acted.room
  pub acted_places : 1 ≤ s.acted.places

-- the second side has at least the room of the first
pub record KeepsRoom (s t : CodeSide) : Type 0 where
  pub octets : s.outbox.room ≤ t.outbox.room
  pub places : s.outbox.places ≤ t.outbox.places
  pub acted : s.acted.room ≤ t.acted.room
  pub acted_places : s.acted.places ≤ t.acted.places
  pub sent : s.sent.room ≤ t.sent.room
  pub sent_places : s.sent.places ≤ t.sent.places

-- a side whose next item is put
abbrev pub put_next : Side → ℕ → Side
put_next s cut = record s { outbox = left_behind (next_item cut s.outbox) s.outbox }

-- a message is told in the side's incarnation: an UPDATE joins those sent, and the KeepaliveTimer is set again
abbrev pub told_by : Side → Message → Side
told_by s m = record (appended s (Says s.link.epoch m)) { session = sessions.kept_alive s.session; sent = acted_where true (update_in m) s.link.epoch s.sent }

-- a message can be told without memory
pub record HasRoomToTell (m : Message) (s : CodeSide) : Type 0 where
  pub octets : length (written s.width m) ≤ s.outbox.room
  pub places : 1 ≤ s.outbox.places
  pub sent : length (written s.width m) ≤ s.sent.room
  pub sent_places : 1 ≤ s.sent.places

-- a marker can be appended without memory
abbrev pub HasRoomToMark : CodeSide → Type 0
HasRoomToMark s = 1 ≤ s.outbox.places

-- an UPDATE can be acted on without memory
pub record HasRoomToAct (s : CodeSide) : Type 0 where
  pub acted : MESSAGE_LIMIT ≤ s.acted.room
  pub acted_places : 1 ≤ s.acted.places

-- the draft of an UPDATE that comes in Established: it is acted on, the HoldTimer is set again, and nothing else is done
abbrev pub acting : Side → Draft
acting s = record (draft_of (sessions.held s.session) s.link) { acts = true }
