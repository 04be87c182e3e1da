-- Short sayings as entries, and how many octets they have.
-- m is a message, o an OPEN, n an incarnation.
use Rattle.std.specs.Prelude.{ℕ, ◌≡◌, ◌+◌, ◌≤◌, Bool, cond, List, [], ◌∷◌, ◌++◌, length, Option, None, Some, Result, IfOk}
use Rattle.bgp_values.specs.declared.width.Width.{Width}
use Rattle.bgp_values.specs.declared.messages.TheConstants.{MESSAGE_LIMIT, HEADER_LEN, LEAST_NOTIFICATION}
use Rattle.bgp_codec.specs.declared.fault.Fault.{Fault}
use Rattle.bgp_codec.specs.declared.message.Message.{Message}
use Rattle.bgp_codec.specs.declared.message.Message.TheVariants.{OpenMsg, UpdateMsg, NoticeMsg, AliveMsg}
use Rattle.bgp_codec.specs.declared.update.Update.{Update}
use Rattle.bgp_codec.specs.declared.rule.Rule.{Rule}
use Rattle.bgp_codec.specs.Spelling.{IsWritable, written}
use Rattle.session_fsm.specs.Table.{IsGoodEvent}
use Rattle.run_model.specs.Links.{Entry, Dial, Says, Shut}
use Rattle.router_side.specs.declared.drafted.Say.{Say}
use Rattle.router_side.specs.declared.drafted.Say.TheVariants as say
use Rattle.router_model.specs.Sides.{AtHand, NoMessage, HasFault, HasUpdate, with_update, notification, notification_of, event_of}

-- the message that tells of what is at hand
abbrev pub told_of : AtHand → Option Message
told_of NoMessage = None
told_of (HasFault fault) = Some (notification_of fault)
told_of (HasUpdate update) = None

abbrev pub said_where : ℕ → Option Message → List (Entry Message)
said_where n None = []
said_where n (Some m) = Says n m ∷ []

abbrev pub entries_of : Message → Option Message → Say → List (Entry Message)
entries_of own_open told (say.Dial n) = Dial n ∷ []
entries_of own_open told (say.Shut n) = Shut n ∷ []
entries_of own_open told (say.Open n) = Says n own_open ∷ []
entries_of own_open told (say.Alive n) = Says n AliveMsg ∷ []
entries_of own_open told (say.Notice n code) = Says n (notification code) ∷ []
entries_of own_open told (say.Given n) = said_where n told

abbrev pub all_entries : Message → Option Message → List Say → List (Entry Message)
all_entries own_open told [] = []
all_entries own_open told (saying ∷ sayings) = entries_of own_open told saying ++ all_entries own_open told sayings

abbrev pub size_where : Width → Option Message → ℕ
size_where width None = 0
size_where width (Some m) = length (written width m)

-- how many octets a saying has, if the OPEN has so many, and the message that tells of what is at hand so many
abbrev pub size_of : ℕ → ℕ → Say → ℕ
size_of open_len told_len (say.Dial n) = 0
size_of open_len told_len (say.Shut n) = 0
size_of open_len told_len (say.Open n) = open_len
size_of open_len told_len (say.Alive n) = HEADER_LEN
size_of open_len told_len (say.Notice n code) = LEAST_NOTIFICATION
size_of open_len told_len (say.Given n) = told_len

abbrev pub all_sizes : ℕ → ℕ → List Say → ℕ
all_sizes open_len told_len [] = 0
all_sizes open_len told_len (saying ∷ sayings) = size_of open_len told_len saying + all_sizes open_len told_len sayings

-- what is found is this reading under a rule: its event may come, and a message is writable
pub record IsReadAs (rule : Rule) (wanted found : Result Message Fault) : Type 0 where
  pub read : found ≡ wanted
  pub good : IsGoodEvent (event_of found)
  pub writable : IfOk found (IsWritable rule)

-- a message that a router can say
abbrev pub nobody : Width → Rule
nobody width = record { width = width; peer = None; own = None }

abbrev pub IsSayable : Width → Message → Type 0
IsSayable width m = IsWritable (nobody width) m × (length (written width m) ≤ MESSAGE_LIMIT)

abbrev pub IsSayableWhere : Width → Option Message → Type 0
IsSayableWhere width None = Unit {0}
IsSayableWhere width (Some m) = IsSayable width m

abbrev pub acted_where : Bool → Option Update → ℕ → (ℕ → List Update) → ℕ → List Update
acted_where acts None n history = history
acted_where acts (Some update) n history = cond acts (with_update history n update) history

abbrev pub update_in : Message → Option Update
update_in (OpenMsg o) = None
update_in (UpdateMsg update) = Some update
update_in (NoticeMsg notice) = None
update_in AliveMsg = None
