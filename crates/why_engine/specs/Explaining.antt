-- The text printed of a router: its sessions, and for each prefix what it keeps, what its peers said of it, how it
-- judges that, and which peers it told.
use Rattle.std.specs.Prelude.{◌≡◌, ℕ, ◌+◌, ◌==◌, ◌&&◌, ◌||◌, Bool, true, false, List, [], ◌∷◌, ◌++◌, filter, Option, None, Some, is_some, slice_get, codes, decimal, if◌then◌else◌, ◌⊎◌}
use Rattle.std.specs.List.{flat_map, list_any}
use Rattle.prefix_lanes.specs.Bits.{PrefixView}
use Rattle.bgp_framing.specs.Held.{is_waiting}
use Rattle.session_fsm.specs.declared.state.State.{State}
use Rattle.session_fsm.specs.Table.{SessionView}
use Rattle.session_fsm.specs.declared.state.State.TheVariants.{Idle, Connect, Active, OpenSent, OpenConfirm, Established}
use Rattle.outbox.specs.declared.item.Item.{Item}
use Rattle.outbox.specs.Items.{octets_waiting}
use Rattle.ranked_policy.specs.declared.network.Origin.{Origin}
use Rattle.ranked_policy.specs.declared.network.RankRule.{RankRule}
use Rattle.ranked_policy.specs.Plans.{IsRouter}
use Rattle.ranked_policy.specs.Policies.{Table, IsTable, IsTableOf}
use Rattle.ranked_policy.specs.Tests.{permits, rule_for}
use Rattle.rib_tables.specs.Words.{path_in}
use Rattle.router_model.specs.Settings.{Setting, is_router, linked, peers}
use Rattle.router_model.specs.Sides.{Side, is_up}
use Rattle.router_model.specs.State.{Router, same_path}
use Rattle.router_core.specs.Views.{RouterView, heard_now, told_now}
use Rattle.world_core.specs.World.{World}
use Rattle.world_core.specs.Views.{WorldView, plain_world, pipes_of}
use Rattle.net_text.specs.declared.code.Code.TheVariants as kinds
use Rattle.net_text.specs.Printing.{line, prefix_text, numbers_text, marked, code_text}
use Rattle.text_engines.specs.declared.status.TheConstants.{DONE}
use Rattle.text_engines.specs.Decoding.{Output, output, refused}

-- ---- sessions

unfoldable pub state_text : State → List ℕ
state_text Idle = codes "Idle"
state_text Connect = codes "Connect"
state_text Active = codes "Active"
state_text OpenSent = codes "OpenSent"
state_text OpenConfirm = codes "OpenConfirm"
state_text Established = codes "Established"

-- the octets of messages that wait to be put, if any do
abbrev pub outbox_text : ℕ → List ℕ
outbox_text n = if n == 0 then [] else codes " outbox " ++ decimal n

abbrev pub coming_text : Bool → List ℕ
coming_text coming = if coming then codes " on its way" else []

unfoldable pub number_text : ℕ → List ℕ
number_text v = codes "peer " ++ (decimal v ++ codes " ")

unfoldable pub behind_word : List ℕ → ℕ → List ℕ
behind_word word n = word ++ decimal n

-- a peer, the state of the session with it, and the incarnation of the link
unfoldable pub session_text : ℕ → State → ℕ → List ℕ
session_text v state epoch = number_text v ++ (state_text state ++ behind_word (codes " incarnation ") epoch)

-- the line of a peer: its session, how many octets wait towards it, and whether something of it is on its way
unfoldable pub peer_line : ℕ → State → ℕ → ℕ → Bool → List ℕ
peer_line v state epoch waiting coming = line (session_text v state epoch ++ (outbox_text waiting ++ coming_text coming))

-- an item of the peer was not taken yet, or a message of it was not handled
abbrev pub is_coming : List Item → Side → Bool
is_coming items s = is_some (slice_get items 0) || is_waiting s.held

-- a timer and the seconds that are left of it, if it runs (RFC 4271 section 8)
unfoldable pub timer_text : List ℕ → ℕ → List ℕ
timer_text name seconds = if seconds == 0 then [] else name ++ decimal seconds

unfoldable pub timers_text : SessionView → List ℕ
timers_text s =
    timer_text (codes " ConnectRetryTimer ") s.connect_retry_timer
    ++ (timer_text (codes " HoldTimer ") s.hold_timer
    ++ (timer_text (codes " KeepaliveTimer ") s.keepalive_timer
    ++ timer_text (codes " RestartTimer ") s.restart_timer))

-- no timer runs
abbrev pub is_still : SessionView → Bool
is_still s =
    (s.connect_retry_timer == 0) && ((s.hold_timer == 0) && ((s.keepalive_timer == 0) && (s.restart_timer == 0)))

-- the line of the timers that run, if one does
abbrev pub timers_line : SessionView → List ℕ
timers_line s = if is_still s then [] else line (codes "  timers" ++ timers_text s)

abbrev pub peer_text : ℕ → List Item → Side → List ℕ
peer_text v items s =
    peer_line v s.session.state s.link.epoch (octets_waiting s.outbox) (is_coming items s) ++ timers_line s.session

-- the lines of these peers and of their timers, with what is in the pipe from each
abbrev pub peers_text : (ℕ → Side) → (ℕ → List Item) → List ℕ → List ℕ
peers_text sides pipes vs = flat_map (λ v. peer_text v (pipes v) (sides v)) vs

-- ---- how a router judges a path that a peer said

-- the place of a path in a list, counted from this one; 0 if it does not stand there
abbrev pub place_in : ℕ → List (List ℕ) → List ℕ → ℕ
place_in n [] path = 0
place_in n (p ∷ ps) path = if same_path p path then n else place_in (n + 1) ps path

-- the place of a path in a rule, in which the best stands first
abbrev pub place_text : Option RankRule → List ℕ → List ℕ
place_text None path = []
place_text (Some rule) path = codes ", place " ++ decimal (place_in 1 rule.paths path)

abbrev pub kept_text : List ℕ → List ℕ → List ℕ
kept_text kept path = if same_path kept path then codes ", kept" else []

-- a choice of the router: the path along what a peer said, its place in the rule, and whether it is the one that is kept
unfoldable pub choice_text : Table → PrefixView → (kept said : List ℕ) → List ℕ
choice_text table q kept said =
    decimal table.router ++ (codes "-" ++ (numbers_text said ++ (place_text (rule_for table.rules q) (table.router ∷ said) ++ kept_text kept (table.router ∷ said))))

-- a path that the router stands in is no choice (RFC 4271 section 9.1.2), nor is one that its policy does not permit
unfoldable pub stands_in : Table → (said : List ℕ) → Bool
stands_in table said = list_any (λ v. v == table.router) said

unfoldable pub may_use : Table → PrefixView → (said : List ℕ) → Bool
may_use table q said = permits table q (table.router ∷ said)

abbrev pub verdict_text : Table → PrefixView → (kept said : List ℕ) → List ℕ
verdict_text table q kept said =
    if stands_in table said then codes "loop"
    else if may_use table q said then choice_text table q kept said
    else codes "not permitted"

unfoldable pub word_line : Table → PrefixView → (kept : List ℕ) → ℕ → (said : List ℕ) → List ℕ
word_line table q kept v said = line (codes "  from " ++ (decimal v ++ (codes " " ++ (numbers_text said ++ (codes ": " ++ verdict_text table q kept said)))))

-- the line of the path that a peer said last for a prefix, if it said one
abbrev pub said_text : Table → PrefixView → (kept : List ℕ) → ℕ → (said : List ℕ) → List ℕ
said_text table q kept v [] = []
said_text table q kept v (w ∷ said) = word_line table q kept v (w ∷ said)

abbrev pub words_text : Table → PrefixView → (kept : List ℕ) → (ℕ → Side) → List ℕ → List ℕ
words_text table q kept sides vs = flat_map (λ v. said_text table q kept v (path_in (heard_now (sides v) q))) vs

-- ---- the peers that a router told

-- a peer was told: its session is Established, and the last word sent is the kept path
abbrev pub is_told : List ℕ → Side → PrefixView → Bool
is_told kept s q = is_up s && same_path kept (path_in (told_now s q))

unfoldable pub told_line : List ℕ → List ℕ
told_line vs = line (codes "  told" ++ marked 32 vs)

abbrev pub told_text : List ℕ → List ℕ
told_text [] = []
told_text (v ∷ vs) = told_line (v ∷ vs)

abbrev pub told_of : (kept : List ℕ) → (ℕ → Side) → PrefixView → List ℕ → List ℕ
told_of kept sides q vs = filter (λ v. is_told kept (sides v) q) vs

-- ---- prefixes

abbrev pub originated_text : Bool → List ℕ
originated_text originated = if originated then codes ", originated" else []

unfoldable pub kept_line : PrefixView → List ℕ → Bool → List ℕ
kept_line q kept originated = line (codes "prefix" ++ (prefix_text q ++ (codes " keeps " ++ (numbers_text kept ++ originated_text originated))))

abbrev pub prefix_lines : Table → Router → List ℕ → PrefixView → List ℕ
prefix_lines table x vs q = kept_line q (x.kept q) (x.originated q) ++ (words_text table q (x.kept q) x.sides vs ++ told_text (told_of (x.kept q) x.sides q vs))

abbrev pub prefixes_lines : Table → Router → List ℕ → List Origin → List ℕ
prefixes_lines table x vs origins = flat_map (λ o. prefix_lines table x vs o.prefix) origins

-- ---- a router

unfoldable pub router_line : ℕ → List ℕ
router_line u = line (codes "router " ++ decimal u)

-- the text of a router with this policy, these peers and these origins of prefixes, with what is in the pipe from each
-- peer
abbrev pub router_text : ℕ → Table → Router → (ℕ → List Item) → List ℕ → List Origin → List ℕ
router_text u table x pipes vs origins = router_line u ++ (peers_text x.sides pipes vs ++ prefixes_lines table x vs origins)

abbrev pub why_text : Setting → World → ℕ → Table → List ℕ
why_text g w u table = router_text u table (w.routers u).router (λ v. w.pipes v u) (peers g.net u) g.net.origins

-- the text of the router of this number, or that the network has none
abbrev pub Explains : ℕ → Setting → World → Output → Type 0
Explains u g w out =
    ((is_router g u ≡ false) × (out ≡ refused 0 (code_text kinds.UnknownRouter)))
    ⊎ ((table : Table) × IsTable table × IsTableOf g.net u table × (out ≡ output (why_text g w u table) DONE))

-- the text of the router of this number, in every setting of the network of the code's world
abbrev pub ExplainsWorld : ℕ → WorldView → Output → Type 0
ExplainsWorld u x out = (g : Setting) → g.net ≡ x.net → Explains u g (plain_world x) out

-- ---- what the code reads

-- these are the peers of a router
abbrev pub ArePeers : RouterView → List ℕ → Type 0
ArePeers x vs = vs ≡ peers x.net x.number

-- a peer of a router, one of the network's routers
abbrev pub IsPeer : RouterView → ℕ → Type 0
IsPeer x v = (linked x.net x.number v ≡ true) × IsRouter x.net.routers v

-- what is in the pipes towards a router
abbrev pub pipes_to : WorldView → ℕ → ℕ → List Item
pipes_to x u v = pipes_of x.inboxes v u
