-- A router as plain data: its sides, its kept paths, what it originates and what it records, and what follows from these. It has
-- no stamps, tables or buffers: words are those of the histories (RFC 4271 section 3.2), and routes those of the words.
-- g is a setting, x a router, u v routers' numbers, s a side, n an incarnation, q a prefix.
use Rattle.std.specs.Prelude.{ℕ, nat_eq, nat_le, Bool, false, ◌&&◌, ◌||◌, not, cond, List, [], ◌∷◌, Option, None, Some}
use Rattle.std.specs.List.{find, list_any}
use Rattle.std.specs.Cmp.Lexicographic.{pointwise}
use Rattle.bgp_values.specs.declared.attributes.TheConstants.{IGP}
use Rattle.bgp_codec.specs.UpdateReading.{no_attrs}
use Rattle.prefix_lanes.specs.Bits.{PrefixView}
use Rattle.bgp_codec.specs.declared.message.Message.{Message}
use Rattle.bgp_codec.specs.declared.message.Message.TheVariants.{OpenMsg}
use Rattle.bgp_codec.specs.declared.update.Update.{Update}
use Rattle.bgp_codec.specs.declared.path.SegmentKind.TheVariants.{AsSequence}
use Rattle.bgp_codec.specs.declared.rule.Rule.{Rule}
use Rattle.bgp_values.specs.declared.width.Width.{Width}
use Rattle.bgp_values.specs.declared.width.Width.TheVariants.{Two, Four}
use Rattle.bgp_values.specs.declared.width.TheConstants.{AS_TRANS}
use Rattle.bgp_values.specs.declared.messages.TheConstants.{FOUR_OCTET_ASN}
use Rattle.bgp_values.specs.Ranges.{greatest_asn}
use Rattle.bgp_codec.specs.Opens.{cap_of}
use Rattle.bgp_codec.specs.declared.open.Cap.{Cap}
use Rattle.std.specs.Int.{w32, to_be_bytes}
use Rattle.link_epoch.specs.Ends as links
use Rattle.session_fsm.specs.Table as sessions
use Rattle.ranked_policy.specs.Plans.{Plan}
use Rattle.rib_tables.specs.declared.word.Word.{Word}
use Rattle.rib_tables.specs.Words.{nothing, path_in, last_word}
use Rattle.snap_marker.specs.Recordings.{Snapshots, no_snapshots}
use Rattle.router_model.specs.Settings.{Setting, linked, peers, prefixes, identifier}
use Rattle.router_model.specs.Sides.{Side, is_up}

pub record Router : Type 0 where
  pub sides : ℕ → Side  -- towards each peer
  pub kept : PrefixView → List ℕ
  pub originated : PrefixView → Bool
  pub snapshots : Snapshots

-- ---- the messages that a router says of itself

-- the field AS of a router's OPEN: its number, or AS_TRANS if two octets do not hold it (RFC 6793 section 9)
abbrev pub asn_field : ℕ → ℕ
asn_field u = cond (nat_le u (greatest_asn Two)) u AS_TRANS

-- the parameters of a router's OPEN: none, or, with AS numbers of four octets, the capability that says its number (RFC
-- 6793 section 3)
abbrev pub params_of : Width → ℕ → List (List Cap)
params_of Two u = []
params_of Four u = (cap_of FOUR_OCTET_ASN (to_be_bytes w32 u) ∷ []) ∷ []

-- the OPEN of a router: these, the network's hold time, and its identifier (RFC 4271 section 4.2)
abbrev pub open_of : Plan → ℕ → Message
open_of net u = OpenMsg (record { asn = asn_field u; hold = net.settings.hold; id = identifier net.routers u; params = params_of net.settings.width u })

-- an UPDATE of one withdrawn prefix, without attributes (section 4.3)
abbrev pub withdrawal : PrefixView → Update
withdrawal q = record { withdrawn = q ∷ []; attrs = no_attrs; nlri = [] }

-- an UPDATE of one prefix with ORIGIN IGP, the path as one AS_SEQUENCE, and the router's identifier as NEXT_HOP
-- (section 5.1)
abbrev pub announcement : ℕ → PrefixView → List ℕ → Update
announcement id q path = record {
  withdrawn = [];
  attrs = record no_attrs { origin = Some IGP; path = Some (record { kind = AsSequence; numbers = path } ∷ []); next_hop = Some id };
  nlri = q ∷ [];
}

-- a path is told by an announcement, the empty one by a withdrawal
abbrev pub telling : ℕ → PrefixView → List ℕ → Update
telling id q [] = withdrawal q
telling id q (v ∷ path) = announcement id q (v ∷ path)

-- u reads what peer v says as the peer's: its OPEN and its paths name its number (sections 6.2 and 6.3)
abbrev pub rule_of : Plan → ℕ → ℕ → Rule
rule_of net u v = record { width = net.settings.width; peer = Some v; own = Some u }

-- ---- words

-- the last word heard in the incarnation that a side is in (Adj-RIB-In), and the last told (Adj-RIB-Out, section 3.2)
abbrev pub heard : Side → PrefixView → Word
heard s q = last_word nothing (s.acted s.link.epoch) q

abbrev pub last_told : Side → PrefixView → Word
last_told s q = last_word nothing (s.sent s.link.epoch) q

-- ---- routes, and what waits

abbrev pub same_path : List ℕ → List ℕ → Bool
same_path path other = pointwise nat_eq path other

module _ (g : Setting) (u : ℕ) where
  -- the path heard from a peer whose session is Established, the empty one from every other
  abbrev pub path_from : Router → PrefixView → ℕ → List ℕ
  path_from x q v = cond (linked g.net u v && is_up (x.sides v)) (path_in (heard (x.sides v) q)) []

  -- the best of the choices now (section 9.1)
  abbrev pub best_path : Router → PrefixView → List ℕ
  best_path x q = g.best u q (x.originated q) (path_from x q)

  -- the least prefix whose kept path is not the best path
  abbrev pub is_undecided : Router → PrefixView → Bool
  is_undecided x q = not (same_path (x.kept q) (best_path x q))

  abbrev pub undecided : Router → Option PrefixView
  undecided x = find (is_undecided x) (prefixes g)

  -- the least prefix whose kept path is not the last word told to a peer, if the session is Established
  abbrev pub is_unadvertised : Router → ℕ → PrefixView → Bool
  is_unadvertised x v q = not (same_path (x.kept q) (path_in (last_told (x.sides v) q)))

  abbrev pub unadvertised : Router → ℕ → Option PrefixView
  unadvertised x v = cond (linked g.net u v && is_up (x.sides v)) (find (is_unadvertised x v) (prefixes g)) None

  -- an Established peer waits to be told
  abbrev pub is_waiting_peer : Router → ℕ → Bool
  is_waiting_peer x v = cond (is_up (x.sides v)) (list_any (is_unadvertised x v) (prefixes g)) false

  -- some kept path is not the best path, or an Established peer was not told one
  abbrev pub is_pending : Router → Bool
  is_pending x = list_any (is_undecided x) (prefixes g) || list_any (is_waiting_peer x) (peers g.net u)

-- ---- the opening: every session is Idle, and nothing was dialled, kept, originated or recorded

abbrev pub new_side : Setting → Side
new_side g = record {
  session = sessions.opening (record { hold = g.net.settings.hold; restart = g.net.settings.restart });
  link = links.opening;
  outbox = [];
  held = [];
  acted = λ n. [];
  sent = λ n. [];
  width = g.net.settings.width;
}

abbrev pub new_router : Setting → Router
new_router g = record { sides = λ v. new_side g; kept = λ q. []; originated = λ q. false; snapshots = no_snapshots }
