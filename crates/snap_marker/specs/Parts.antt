-- Parts and offers as they are kept, read as what a router recorded and what it offers.
use Rattle.std.specs.Prelude.{ℕ, zero, suc, ◌≡◌, ◌≢◌, ◌==◌, ◌-◌, ◌≤◌, Bool, true, false, cond, List, [], ◌∷◌, map, vec_len, vec_capacity, Option, None, Some}
use Rattle.std.specs.List.{list_any, AllByRecursion}
use Rattle.prefix_lanes.specs.Bits.{PrefixView, is_prefix}
use Rattle.bgp_codec.specs.declared.message.Message.{Message}
use Rattle.bgp_codec.specs.declared.message.Message.TheVariants.{UpdateMsg}
use Rattle.bgp_codec.specs.declared.update.Update.{Update}
use Rattle.run_model.specs.Offers as model
use Rattle.snap_marker.specs.declared.part.KeptPath.{KeptPath}
use Rattle.snap_marker.specs.declared.part.Channel.{Channel}
use Rattle.snap_marker.specs.declared.part.Part.{Part}
use Rattle.snap_marker.specs.declared.part.Cause.{Cause}
use Rattle.snap_marker.specs.declared.part.Cause.TheVariants as cause
use Rattle.snap_marker.specs.declared.part.Offer.{Offer}
use Rattle.snap_marker.specs.declared.part.Offer.TheVariants as offer
use Rattle.snap_marker.specs.Recordings.{RouterPart, RouterOffer, Recording, Snapshots}

-- the path kept for a prefix: the empty one where the list has none
abbrev pub kept_in : List KeptPath → PrefixView → List ℕ
kept_in [] q = []
kept_in (k ∷ ks) q = cond (is_prefix k.prefix q) k.path (kept_in ks q)

abbrev pub originated_in : List PrefixView → PrefixView → Bool
originated_in ps q = list_any (λ p. is_prefix p q) ps

-- ---- the links of a part, by peer

abbrev pub peers_of : List Channel → List ℕ
peers_of channels = map (λ c. c.peer) channels

-- a link without the room in its list
pub record Seen : Type 0 where
  pub peer : ℕ
  pub epoch : ℕ
  pub is_open : Bool
  pub updates : List Update

abbrev pub seen : Channel → Seen
seen c = record { peer = c.peer; epoch = c.epoch; is_open = c.is_open; updates = c.updates.items }

-- what the first link to a peer has, or `nothing` if no link leads to the peer
abbrev pub link_has : {A : Type 0} → A → (Channel → A) → List Channel → ℕ → A
link_has nothing what [] v = nothing
link_has nothing what (c ∷ cs) v = cond (v == c.peer) (what c) (link_has nothing what cs v)

-- the incarnation of the link to a peer
abbrev pub epoch_in : List Channel → ℕ → ℕ
epoch_in = link_has 0 (λ c. c.epoch)

-- UPDATEs as messages, and those recorded of the link to a peer
abbrev pub messages : List Update → List Message
messages updates = map UpdateMsg updates

abbrev pub is_empty : List Message → Bool
is_empty [] = true
is_empty (m ∷ ms) = false

abbrev pub channel_in : List Channel → ℕ → List Message
channel_in = link_has [] (λ c. messages c.updates.items)

-- whether the marker of the peer is missing; true also for a number that is no peer
abbrev pub waits_for_marker : List Channel → ℕ → Bool
waits_for_marker = link_has true (λ c. c.is_open)

-- whether the peer has a channel, and it is open
abbrev pub is_heard_in : List Channel → ℕ → Bool
is_heard_in = link_has false (λ c. c.is_open)

-- the room for more UPDATEs in its channel
abbrev pub room_in : List Channel → ℕ → ℕ
room_in = link_has 0 (λ c. vec_capacity c.updates - vec_len c.updates)

-- a function of peers, changed at one peer
abbrev pub with_link : {A : Type 0} → ℕ → A → (ℕ → A) → ℕ → A
with_link v x has = λ y. cond (y == v) x (has y)

-- ---- a part, a recording, an offer

abbrev pub part_of : Part → RouterPart
part_of p = record {
  kept = kept_in p.kept.items;
  originated = originated_in p.originated.items;
  incarnation = epoch_in p.channels.items;
  pending = p.pending;
  channel = channel_in p.channels.items;
}

abbrev pub recording_of : Part → Recording
recording_of p = record { number = p.number; part = part_of p; waits = waits_for_marker p.channels.items }

abbrev pub cause_of : Cause → model.Cause
cause_of cause.NotUp = model.NotUp
cause_of cause.Closed = model.Closed
cause_of cause.Superseded = model.Superseded

abbrev pub offer_of : Offer → RouterOffer
offer_of (offer.Part p) = model.Finished p.number (part_of p)
offer_of (offer.Lost l) = model.Lost l.number l.peer l.epoch (cause_of l.cause)

abbrev pub router_of : Offer → ℕ
router_of (offer.Part p) = p.router
router_of (offer.Lost l) = l.router

abbrev pub number_of : Offer → ℕ
number_of (offer.Part p) = p.number
number_of (offer.Lost l) = l.number

-- two parts say the same
pub record IsCopy (p q : Part) : Type 0 where
  pub router : p.router ≡ q.router
  pub number : p.number ≡ q.number
  pub kept : p.kept.items ≡ q.kept.items
  pub originated : p.originated.items ≡ q.originated.items
  pub pending : p.pending ≡ q.pending
  pub channels : map seen p.channels.items ≡ map seen q.channels.items

-- ---- what a router has recorded

-- the last number, the unfinished part, the offers that wait, and the room for more of them
pub record MarkView : Type 0 where
  pub last : ℕ
  pub unfinished : Option Part
  pub queue : List Offer
  pub room : ℕ

abbrev pub recording_in : Option Part → Option Recording
recording_in None = None
recording_in (Some p) = Some (recording_of p)

abbrev pub snapshots_of : MarkView → Snapshots
snapshots_of x = record { last = x.last; unfinished = recording_in x.unfinished; queue = map offer_of x.queue }

-- the links of the unfinished part are those to these peers
abbrev pub IsOver : List ℕ → Option Part → Type 0
IsOver peers None = Unit {0}
IsOver peers (Some p) = peers_of p.channels.items ≡ peers

-- the unfinished part is of this router
abbrev pub IsOf : ℕ → Option Part → Type 0
IsOf router None = Unit {0}
IsOf router (Some p) = p.router ≡ router

-- all that a router recorded and offers is its own
pub record AreOf (router : ℕ) (x : MarkView) : Type 0 where
  pub unfinished : IsOf router x.unfinished
  pub queue : AllByRecursion (λ o. router_of o ≡ router) x.queue

-- the first link to a peer stands at this place
abbrev pub IsAt : List Channel → ℕ → ℕ → Type 0
IsAt [] v i = ⊥
IsAt (c ∷ cs) v zero = v ≡ c.peer
IsAt (c ∷ cs) v (suc i) = (v ≢ c.peer) × IsAt cs v i

-- some link leads to the peer
abbrev pub leads : ℕ → Channel → Bool
leads v c = v == c.peer

abbrev pub leads_to : ℕ → List Channel → Bool
leads_to v channels = list_any (leads v) channels

-- nothing is being recorded, or a link of the part leads to the peer
abbrev pub IsLink : Option Part → ℕ → Type 0
IsLink None v = Unit {0}
IsLink (Some p) v = leads_to v p.channels.items ≡ true

-- an UPDATE of the peer is recorded: its channel is still open
abbrev pub is_heard : Option Part → ℕ → Bool
is_heard None v = false
is_heard (Some p) v = is_heard_in p.channels.items v

-- a copy of the UPDATE, if it is recorded
abbrev pub copy_for : Option Part → ℕ → Update → Option Update
copy_for unfinished v u = cond (is_heard unfinished v) (Some u) None

-- the peer's channel has room for an UPDATE, if it is open
abbrev pub HasRoom : Option Part → ℕ → Type 0
HasRoom None v = Unit {0}
HasRoom (Some p) v = is_heard_in p.channels.items v ≡ true → 1 ≤ room_in p.channels.items v

-- each recording ends in one offer, and keeps room for it
abbrev pub offers_owed : Option Part → ℕ
offers_owed None = 0
offers_owed (Some p) = 1
