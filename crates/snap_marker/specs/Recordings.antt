-- What a router records of a snapshot, and what it offers of it (Chandy and Lamport 1985).
use Rattle.std.specs.Prelude.{ℕ, ◌==◌, Bool, false, ◌&&◌, not, cond, List, [], ◌∷◌, ◌++◌, drop, Option, None, Some}
use Rattle.std.specs.List.{find, list_any}
use Rattle.prefix_lanes.specs.Bits.{PrefixView}
use Rattle.bgp_codec.specs.declared.message.Message.{Message}
use Rattle.run_model.specs.Offers.{Part, Offer, Made, Finished, Lost, Cause, NotUp, Closed, Superseded}

-- what a router recorded: kept paths, what it originated, the incarnation of each link, the pending flag, and the channels
abbrev pub RouterPart : Type 0
RouterPart = Part Message PrefixView (List ℕ)

-- a finished part, or the loss of a recording
abbrev pub RouterOffer : Type 0
RouterOffer = Offer Message PrefixView (List ℕ)

-- an offer that was made to the collector, and by whom
abbrev pub MadeOffer : Type 0
MadeOffer = Made Message PrefixView (List ℕ)

-- an unfinished recording: its number, what was recorded so far, and the peers whose marker is still missing
pub record Recording : Type 0 where
  pub number : ℕ
  pub part : RouterPart
  pub waits : ℕ → Bool

-- the last number recorded, 0 at first; the unfinished recording; the offers that wait to be made
pub record Snapshots : Type 0 where
  pub last : ℕ
  pub unfinished : Option Recording
  pub queue : List RouterOffer

-- nothing was recorded
abbrev pub no_snapshots : Snapshots
no_snapshots = record { last = 0; unfinished = None; queue = [] }

abbrev pub queueing : Snapshots → List RouterOffer → Snapshots
queueing x offers = record x { queue = x.queue ++ offers }

-- ---- a close

-- an unfinished recording is lost by the peer v, in incarnation e of the link to it
abbrev pub lost : Option Recording → (v e : ℕ) → Cause → List RouterOffer
lost None v e cause = []
lost (Some r) v e cause = Lost r.number v e cause ∷ []

-- the session with a peer left Established in this incarnation, or none did
abbrev pub closed : Option (ℕ × ℕ) → Snapshots → Snapshots
closed None x = x
closed (Some close) x = queueing (record x { unfinished = None }) (lost x.unfinished close.0 close.1 Closed)

-- ---- an UPDATE that is acted on

-- an UPDATE joins the channel of its peer v, if that still waits for its marker
abbrev pub with_message : ℕ → Message → RouterPart → RouterPart
with_message v m part = record part { channel = λ y. cond (y == v) (part.channel y ++ m ∷ []) (part.channel y) }

abbrev pub joins_channel : ℕ → Message → Option Recording → Option Recording
joins_channel v m None = None
joins_channel v m (Some r) = Some (cond (r.waits v) (record r { part = with_message v m r.part }) r)

abbrev pub acted_on : ℕ → Message → Snapshots → Snapshots
acted_on v m x = record x { unfinished = joins_channel v m x.unfinished }

-- ---- a marker

-- the recording goes on while the marker of some peer is missing; else its part is queued
abbrev pub goes_on : List ℕ → Recording → Snapshots → Snapshots
goes_on peers r x =
    cond (list_any r.waits peers) (record x { unfinished = Some r })
    (queueing (record x { unfinished = None }) (Finished r.number r.part ∷ []))

-- a marker of the peer v whose number s is not above the last: it ends the channel that waits for it, else it is
-- ignored
abbrev pub ends_channel : List ℕ → (v s : ℕ) → Option Recording → Snapshots → Snapshots
ends_channel peers v s None x = x
ends_channel peers v s (Some r) x =
    cond ((r.number == s) && r.waits v) (goes_on peers (record r { waits = λ y. cond (y == v) false (r.waits y) }) x) x

-- ---- a new number

-- the unfinished recording is lost by a peer, if there is one, in the incarnation of the link to it
abbrev pub lost_at : ℕ → (ℕ → ℕ) → Cause → Option ℕ → List RouterOffer
lost_at s incarnation cause None = []
lost_at s incarnation cause (Some v) = Lost s v (incarnation v) cause ∷ []

-- a greater number supersedes the unfinished recording, by the least peer whose marker is missing
abbrev pub superseded : List ℕ → (ℕ → ℕ) → Option Recording → List RouterOffer
superseded peers incarnation None = []
superseded peers incarnation (Some r) = lost_at r.number incarnation Superseded (find r.waits peers)

-- a recording begins; if the session with some peer is not Established, it is lost at once, by the least such peer
abbrev pub begins_or_is_lost : List ℕ → Option ℕ → Recording → Snapshots → Snapshots
begins_or_is_lost peers None r x = goes_on peers r x
begins_or_is_lost peers (Some v) r x = queueing (record x { unfinished = None }) (Lost r.number v (r.part.incarnation v) NotUp ∷ [])

-- a number is recorded: the unfinished recording is superseded; if the peer `down`, the least one, is not Established,
-- the new recording is lost at once
abbrev pub superseding : Recording → List ℕ → Snapshots → Snapshots
superseding r peers x = queueing (record x { last = r.number; unfinished = None }) (superseded peers r.part.incarnation x.unfinished)

abbrev pub begun_at : List ℕ → (down : Option ℕ) → Recording → Snapshots → Snapshots
begun_at peers down r x = begins_or_is_lost peers down r (superseding r peers x)

abbrev pub begun : List ℕ → (ℕ → Bool) → Recording → Snapshots → Snapshots
begun peers is_up r x = begun_at peers (find (λ v. not (is_up v)) peers) r x

-- ---- an offer that is made

-- the first offer is made
abbrev pub without_first : Snapshots → Snapshots
without_first x = record x { queue = drop 1 x.queue }
