-- The tables of a router by the places of its prefixes and of its peers.
use Rattle.std.specs.Prelude.{ℕ, ◌≡◌, ◌≢◌, ◌<◌, ◌≤◌, ◌↔◌, Bool, true, false, List, [], ◌∷◌, ◌++◌, Some, length, slice_get, slice_set, if◌then◌else◌, map}
use Rattle.std.specs.List.{All, AllPairs}
use Rattle.prefix_lanes.specs.Bits.{PrefixView, is_prefix}
use Rattle.ranked_policy.specs.declared.network.Origin.{Origin}
use Rattle.ranked_policy.specs.declared.limits.TheConstants.{MOST_PREFIXES}
use Rattle.ranked_policy.specs.Plans.{Plan, IsNetwork, IsRouter, IsOrigin, Linked}
use Rattle.ranked_policy.specs.Peers.{peers as peers_of}
use Rattle.ranked_policy.specs.Policies.{Table, IsTableOf, Originates}
use Rattle.ranked_policy.specs.Choices.{Speaks}
use Rattle.rib_tables.specs.declared.word.Word.{Word}
use Rattle.rib_tables.specs.declared.word.Word.TheVariants.{Sequence}
use Rattle.rib_tables.specs.declared.place_set.PlaceSet.{PlaceSet}
use Rattle.rib_tables.specs.declared.row.Peer.{Peer}
use Rattle.rib_tables.specs.declared.row.Row.{Row}
use Rattle.rib_tables.specs.Places.{has}
use Rattle.rib_tables.specs.Words.{nothing, announced_word, lists}
use Rattle.bgp_codec.specs.declared.update.Update.{Update}
use Rattle.rib_tables.specs.Tables.{Words, Paths}
use Rattle.rib_tables.specs.Choices.{IsBestOf}
use Rattle.rib_tables.specs.Owners.{RibView}

-- ---- what a look-up sees of them

-- the words of the peers for one prefix
abbrev pub says_in : List Peer → PrefixView → List Word → Words
says_in [] q words = []
says_in (p ∷ ps) q [] = []
says_in (p ∷ ps) q (w ∷ ws) = (record { peer = p.asn; prefix = q; word = w }) ∷ says_in ps q ws

abbrev pub said_in : (Row → List Word) → List Peer → List Row → Words
said_in line peers [] = []
said_in line peers (r ∷ rs) = says_in peers r.prefix (line r) ++ said_in line peers rs

abbrev pub kept_in : List Row → Paths
kept_in rows = map (λ r. record { prefix = r.prefix; path = r.kept }) rows

-- the values of the items that pass a test
abbrev pub picked : {X Y : Type 0} → (X → Bool) → (X → Y) → List X → List Y
picked test value [] = []
picked test value (x ∷ xs) = if test x then value x ∷ picked test value xs else picked test value xs

abbrev pub established_in : List Peer → List ℕ
established_in peers = picked (λ p. p.up) (λ p. p.asn) peers

abbrev pub originated_in : List Row → List PrefixView
originated_in rows = picked (λ r. r.originated) (λ r. r.prefix) rows

abbrev pub view_of : Plan → ℕ → List Peer → List Row → RibView
view_of net router peers rows = record {
  net = net;
  router = router;
  heard = said_in (λ r. r.heard) peers rows;
  sent = said_in (λ r. r.sent) peers rows;
  established = established_in peers;
  originated = originated_in rows;
  kept = kept_in rows;
}

-- ---- one prefix

-- this path is heard from one of the first n peers, whose session is Established
pub record RowHears (peers : List Peer) (heard : List Word) (n : ℕ) (v : ℕ) (path : List ℕ) : Type 0 where
  pub place : ℕ
  pub below : place < n
  pub peer : Peer
  pub at : slice_get peers place ≡ Some peer
  pub up : peer.up ≡ true
  pub number : peer.asn ≡ v
  pub word : slice_get heard place ≡ Some (Sequence path)

-- the best of the router's choices for the prefix of a row
abbrev pub IsRowBest : Plan → ℕ → List Peer → Row → List ℕ → Type 0
IsRowBest net router peers r path =
    (table : Table) × IsTableOf net router table × IsBestOf (r.originated ≡ true) (RowHears peers r.heard (length peers)) table r.prefix path

-- the row's words are of these peers, and its policy is the router's for its prefix
pub record IsRow (net : Plan) (router : ℕ) (peers : List Peer) (r : Row) : Type 0 where
  pub heard : length r.heard ≡ length peers
  pub sent : length r.sent ≡ length peers
  pub speaks : (table : Table) → IsTableOf net router table → Speaks r.policy table r.prefix
  pub own : (table : Table) → IsTableOf net router table → (r.own ≡ true ↔ Originates table r.prefix table.router)

-- ---- all of them

-- the prefixes stand once each, with the words of these peers
pub record AreRows (net : Plan) (router : ℕ) (peers : List Peer) (keys : List PrefixView) (rows : List Row) : Type 0 where
  pub network : IsNetwork net
  pub routers : IsRouter net.routers router
  pub numbers : map (λ p. p.asn) peers ≡ peers_of net router
  pub apart : AllPairs (λ p later. p.asn ≢ later.asn) peers
  pub linked : (v : ℕ) → Linked net.links router v → (k : ℕ) × (p : Peer) × (slice_get peers k ≡ Some p) × (p.asn ≡ v)
  pub known : (k : ℕ) (p : Peer) → slice_get peers k ≡ Some p → Linked net.links router p.asn
  pub listed : keys ≡ map (λ r. r.prefix) rows
  pub named : keys ≡ map (λ o. o.prefix) net.origins
  pub each : (i : ℕ) (r : Row) → slice_get rows i ≡ Some r → IsRow net router peers r

-- outside the set each kept path is the best
abbrev pub AreDecided : Plan → ℕ → List Peer → List Row → PlaceSet → Type 0
AreDecided net router peers rows dirty =
    (i : ℕ) (r : Row) → slice_get rows i ≡ Some r → has dirty i ≡ false → IsRowBest net router peers r r.kept

-- each kept path is the best
abbrev pub AllBest : Plan → ℕ → List Peer → List Row → Type 0
AllBest net router peers rows = (i : ℕ) (r : Row) → slice_get rows i ≡ Some r → IsRowBest net router peers r r.kept

-- the first place whose kept path is not the best
pub record IsFirstUndecided (net : Plan) (router : ℕ) (peers : List Peer) (rows : List Row) (place : ℕ) : Type 0 where
  pub row : Row
  pub at : slice_get rows place ≡ Some row
  pub fails : IsRowBest net router peers row row.kept → ⊥
  pub before : (i : ℕ) (r : Row) → i < place → slice_get rows i ≡ Some r → IsRowBest net router peers r r.kept

-- a router of a network, and its policies in these rows
pub record AreJudged (net : Plan) (router : ℕ) (peers : List Peer) (rows : List Row) : Type 0 where
  pub network : IsNetwork net
  pub routers : IsRouter net.routers router
  pub each : (i : ℕ) (r : Row) → slice_get rows i ≡ Some r → IsRow net router peers r

-- the set of a peer has exactly the places where the peer is Established and was not told the kept path
abbrev pub IsWaiting : ℕ → Peer → List Row → PlaceSet → Type 0
IsWaiting k p rows waiting =
    (i : ℕ) (r : Row) → slice_get rows i ≡ Some r
    → (has waiting i ≡ true ↔ ((p.up ≡ true) × (slice_get r.sent k ≢ Some (Sequence r.kept))))

pub record AreWaiting (peers : List Peer) (rows : List Row) (waits : List PlaceSet) : Type 0 where
  pub long : length waits ≡ length peers
  pub each : (k : ℕ) (p : Peer) (waiting : PlaceSet) → slice_get peers k ≡ Some p → slice_get waits k ≡ Some waiting → IsWaiting k p rows waiting

pub record IsRib (net : Plan) (router : ℕ) (peers : List Peer) (keys : List PrefixView) (rows : List Row) (dirty : PlaceSet) (waits : List PlaceSet) : Type 0 where
  pub whole : AreRows net router peers keys rows
  pub decided : AreDecided net router peers rows dirty
  pub told : AreWaiting peers rows waits

-- what a change of rows needs: each prefix once, and words of so many peers
pub record AreFit (keys : List PrefixView) (peers : ℕ) (rows : List Row) : Type 0 where
  pub listed : keys ≡ map (λ r. r.prefix) rows
  pub once : AllPairs (λ p q. p ≢ q) keys
  pub few : length keys ≤ MOST_PREFIXES
  pub heard : (i : ℕ) (r : Row) → slice_get rows i ≡ Some r → length r.heard ≡ peers
  pub sent : (i : ℕ) (r : Row) → slice_get rows i ≡ Some r → length r.sent ≡ peers

-- ---- as a router starts

-- the row of a prefix for so many peers, by the router's policies: nothing is heard, sent, originated or kept
pub record IsFresh (origins : List Origin) (table : Table) (peers : ℕ) (origin : Origin) (r : Row) : Type 0 where
  pub prefix : r.prefix ≡ origin.prefix
  pub originated : r.originated ≡ false
  pub kept : r.kept ≡ []
  pub heard : length r.heard ≡ peers
  pub sent : length r.sent ≡ peers
  pub nothing_heard : All (λ word. word ≡ nothing) r.heard
  pub nothing_sent : All (λ word. word ≡ nothing) r.sent
  pub speaks : Speaks r.policy table origin.prefix
  pub own : r.own ≡ true ↔ IsOrigin origins table.router origin.prefix

-- a fresh row for each of these prefixes, in their order
pub record AreFresh (origins : List Origin) (table : Table) (peers : ℕ) (listed : List Origin) (rows : List Row) : Type 0 where
  pub long : length rows ≡ length listed
  pub each : (i : ℕ) (o : Origin) (r : Row) → slice_get listed i ≡ Some o → slice_get rows i ≡ Some r → IsFresh origins table peers o r

-- ---- changes

-- a change of the row of one prefix alone
abbrev pub on : PrefixView → (Row → Row) → Row → Row
on q change r = if is_prefix q r.prefix then change r else r

abbrev pub hearing : ℕ → Word → Row → Row
hearing k word r = record { prefix = r.prefix; own = r.own; policy = r.policy; originated = r.originated; kept = r.kept; heard = slice_set r.heard k word; sent = r.sent }

abbrev pub telling : ℕ → Word → Row → Row
telling k word r = record { prefix = r.prefix; own = r.own; policy = r.policy; originated = r.originated; kept = r.kept; heard = r.heard; sent = slice_set r.sent k word }

abbrev pub keeping : List ℕ → Row → Row
keeping path r = record { prefix = r.prefix; own = r.own; policy = r.policy; originated = r.originated; kept = path; heard = r.heard; sent = r.sent }

abbrev pub originating : Bool → Row → Row
originating now r = record { prefix = r.prefix; own = r.own; policy = r.policy; originated = now; kept = r.kept; heard = r.heard; sent = r.sent }

-- a peer says one word of each of these prefixes
abbrev pub hearing_all : List PrefixView → ℕ → Word → Row → Row
hearing_all prefixes k word r = if lists prefixes r.prefix then hearing k word r else r

-- all words of a peer are gone
abbrev pub forgetting : ℕ → Row → Row
forgetting k r = record { prefix = r.prefix; own = r.own; policy = r.policy; originated = r.originated; kept = r.kept; heard = slice_set r.heard k nothing; sent = slice_set r.sent k nothing }

-- no path is kept, and nothing is originated
abbrev pub clearing : Row → Row
clearing r = record { prefix = r.prefix; own = r.own; policy = r.policy; originated = false; kept = []; heard = r.heard; sent = r.sent }

-- the peer says a path for the prefix of the row
abbrev pub Speaking : ℕ → Row → Type 0
Speaking k r = (v : ℕ) × (rest : List ℕ) × (slice_get r.heard k ≡ Some (Sequence (v ∷ rest)))

-- the set keeps its places, and has at least each place besides where the peer says a path
abbrev pub MarksSpeaking : ℕ → List Row → PlaceSet → PlaceSet → Type 0
MarksSpeaking k rows old new = (i : ℕ) → has new i ≡ false → (has old i ≡ false) × ((r : Row) → slice_get rows i ≡ Some r → Speaking k r → ⊥)

-- the set keeps its places, and has at least each place besides whose row passes the test
abbrev pub Marks : (Row → Bool) → List Row → PlaceSet → PlaceSet → Type 0
Marks test rows old new = (i : ℕ) → has new i ≡ false → (has old i ≡ false) × ((r : Row) → slice_get rows i ≡ Some r → test r ≡ false)

-- the kept path of a row stays the best when a peer says this word
abbrev pub BestStays : ℕ → Row → ℕ → Word → Type 0
BestStays router r k word =
    (net : Plan) (peers : List Peer) → IsNetwork net → IsRouter net.routers router → IsRow net router peers r
    → IsRowBest net router peers r r.kept → IsRowBest net router peers (hearing k word r) r.kept

-- the words heard change, and each kept path outside the set is still the best
abbrev pub StaysDecided : ℕ → List Row → List Row → PlaceSet → PlaceSet → Type 0
StaysDecided router rows changed old new =
    (net : Plan) (peers : List Peer) → AreJudged net router peers rows → AreDecided net router peers rows old
    → AreJudged net router peers changed × AreDecided net router peers changed new

-- a row after an UPDATE of a peer, in which an announcement wins over a withdrawal
abbrev pub hearing_update : ℕ → Update → Row → Row
hearing_update k u r = hearing_all u.nlri k (announced_word u.attrs) (hearing_all u.withdrawn k nothing r)
