-- A router of the code as a router of the definitions: its list of peers as a function of numbers, its tables as what its sides say.
-- g is a setting, x y a router before and behind, r one with its stamp, u v routers' numbers, p a peer, j a place, s a
-- side, a a draft, h what is at hand, i an item, z a sign, k a snapshot's number, n an incarnation, q a prefix.
use Rattle.std.specs.Prelude.{ℕ, zero, suc, ◌≡◌, ◌≢◌, ◌≤◌, ◌<◌, ◌==◌, nat_lt, Bool, true, false, not, ◌&&◌, cond, List, [], ◌∷◌, length, map, Option, None, Some, Result, Ok, Err, MatchResult, ◌+◌}
use Rattle.ranked_policy.specs.declared.limits.TheConstants.{LONGEST_PATH}
use Rattle.bgp_values.specs.declared.width.Width.{Width}
use Rattle.bgp_codec.specs.AsNumbers.{AsnFits}
use Rattle.session_fsm.specs.declared.config.SessionConfig.{SessionConfig}
use Rattle.ranked_policy.specs.Plans.{Plan, IsNetwork, IsRouter}
use Rattle.router_side.specs.Sayings.{IsSayable}
use Rattle.router_side.specs.SideOf.{side, side_opening}
use Rattle.router_model.specs.declared.refusal.RouterError.{RouterError}
use Rattle.router_model.specs.declared.refusal.RouterError.TheVariants as error
use Rattle.router_model.specs.declared.refusal.Stepped.{Stepped}
use Rattle.router_model.specs.declared.refusal.Stepped.TheVariants as stepped
use Rattle.std.specs.Prelude.{◌↔◌}
use Rattle.std.specs.List.{Contains, AllByRecursion, find}
use Rattle.std.specs.Prelude.{is_some, slice_get}
use Rattle.router_side.specs.Freshness.{IsFresh}
use Rattle.prefix_lanes.specs.Bits.{PrefixView}
use Rattle.ranked_policy.specs.Plans.{IsNamed}
use Rattle.ranked_policy.specs.declared.network.Origin.{Origin}
use Rattle.rib_tables.specs.declared.word.Word.{Word}
use Rattle.rib_tables.specs.declared.word.Word.TheVariants.{Sequence}
use Rattle.rib_tables.specs.Words.{nothing, lists, path_in}
use Rattle.rib_tables.specs.Tables.{word_of, path_of}
use Rattle.rib_tables.specs.Owners.{RibView}
use Rattle.snap_marker.specs.declared.part.Offer.{Offer}
use Rattle.snap_marker.specs.Parts.{snapshots_of, IsOver, IsOf, offer_of, router_of}
use Rattle.router_model.specs.Settings.{Setting, ChoosesByRank, linked, peers, identifier}
use Rattle.bgp_framing.specs.Held.{is_waiting}
use Rattle.outbox.specs.Items.{next_item}
use Rattle.outbox.specs.declared.item.Item.{Item}
use Rattle.outbox.specs.declared.item.What.TheVariants as item
use Rattle.run_model.specs.Network.{alone, puts, takes, offers}
use Rattle.link_epoch.specs.declared.link_end.Sign.{Sign}
use Rattle.router_model.specs.Sides.{Side, AtHand, NoMessage, Draft, draft_sign, is_up, told}
use Rattle.router_model.specs.State.{open_of, new_router, heard, last_told, telling, unadvertised, is_waiting_peer}
use Rattle.router_model.specs.Step.{moved, taken, next_offer, with_side}
use Rattle.router_model.specs.Calls.{Stamped, Call, Put, Answer, Steps, Idle, Refuses, answer, Gives, has_room}
use Rattle.run_model.specs.declared.stamps.TheConstants.{GREATEST_STAMP}
use Rattle.router_core.specs.declared.peers.Peer.{Peer}
use Rattle.router_core.specs.declared.router.Router.TheInside.{Inside}
pub use Rattle.router_core.specs.Fields.{RouterView}
use Rattle.router_core.specs.declared.router.choose.Next.{Next}
use Rattle.router_core.specs.declared.router.choose.Next.TheVariants as next

abbrev pub view_of : Inside → RouterView
view_of inside = record {
  net = inside.network.now;
  number = inside.number;
  own_open = inside.own_open;
  peers = inside.peers.items;
  tables = inside.tables;
  marks = inside.marks;
  stamp = inside.stamp;
}

abbrev pub is_number : ℕ → Peer → Bool
is_number v p = p.number == v

-- the side towards a number, that of the first peer that bears it
abbrev pub side_at : Side → List Peer → ℕ → Side
side_at none [] v = none
side_at none (p ∷ ps) v = cond (is_number v p) (side p.side) (side_at none ps v)

abbrev pub listed : ℕ → List Peer → Bool
listed v [] = false
listed v (p ∷ ps) = cond (is_number v p) true (listed v ps)

-- the first peer with that number stands at that place
abbrev pub IsAt : List Peer → ℕ → ℕ → Type 0
IsAt [] v j = ⊥
IsAt (p ∷ ps) v zero = p.number ≡ v
IsAt (p ∷ ps) v (suc j) = (p.number ≢ v) × IsAt ps v j

-- the peer is found at that place, which is below the length
abbrev pub IsFound : List Peer → ℕ → ℕ → Type 0
IsFound ps v j = (j < length ps) × (listed v ps ≡ true) × IsAt ps v j

-- the settings of the sessions of a network
abbrev pub config_of : Plan → SessionConfig
config_of net = record { hold = net.settings.hold; restart = net.settings.restart }

-- the sides of a router, by peer; towards a number that is no peer, the side as it opens
abbrev pub sides_of : RouterView → ℕ → Side
sides_of x = side_at (side_opening (config_of x.net) x.net.settings.width) x.peers

-- the router as the definitions have it, with the stamp of its last event
abbrev pub plain_of : RouterView → Stamped
plain_of x = record {
  router = record { sides = sides_of x; kept = path_of x.tables.kept; originated = lists x.tables.originated; snapshots = snapshots_of x.marks };
  stamp = x.stamp;
}

-- ---- what there is to do with a peer

-- the next item of a peer may be taken
abbrev pub may_take : RouterView → ℕ → Bool
may_take x v = linked x.net x.number v && not (is_waiting (sides_of x v).held)

-- nothing is to be put towards a peer, whatever the greatest size of a piece
abbrev pub puts_nothing : RouterView → ℕ → ℕ → Bool
puts_nothing x v cut = linked x.net x.number v && not (is_some (next_item cut (sides_of x v).outbox))

-- and no message or fault of the peer waits
abbrev pub link_is_idle : RouterView → ℕ → ℕ → Bool
link_is_idle x v cut = linked x.net x.number v && (not (is_some (next_item cut (sides_of x v).outbox)) && not (is_waiting (sides_of x v).held))

-- ---- tables and sides

-- the last word heard from a peer in Established, and the last told to it: nothing in every other state
abbrev pub heard_now : Side → PrefixView → Word
heard_now s q = cond (is_up s) (heard s q) nothing

abbrev pub told_now : Side → PrefixView → Word
told_now s q = cond (is_up s) (last_told s q) nothing

-- the tables have of a peer what the side towards it says
pub record Follows (origins : List Origin) (tables : RibView) (v : ℕ) (s : Side) : Type 0 where
  pub up : Contains tables.established v ↔ (is_up s ≡ true)
  pub heard : (q : PrefixView) → IsNamed origins q → word_of tables.heard v q ≡ heard_now s q
  pub told : (q : PrefixView) → IsNamed origins q → word_of tables.sent v q ≡ told_now s q

-- a path that can be told: of at most so many numbers, each of which fits the width
pub record IsTellable (width : Width) (path : List ℕ) : Type 0 where
  pub few : length path ≤ LONGEST_PATH
  pub short : AllByRecursion (AsnFits width) path

-- the word is a path: no AS_PATH of another kind
abbrev pub IsPathWord : Word → Type 0
IsPathWord word = word ≡ Sequence (path_in word)

-- the tables of a router are those of its sides; the sides have the network's width, and name what the network names
pub record IsTabled (x : RouterView) : Type 0 where
  pub net : x.tables.net ≡ x.net
  pub router : x.tables.router ≡ x.number
  pub peers : (v : ℕ) → linked x.net x.number v ≡ true → Follows x.net.origins x.tables v (sides_of x v)
  pub fresh : (v : ℕ) → IsFresh (sides_of x v)
  pub width : (v : ℕ) → (sides_of x v).width ≡ x.net.settings.width
  pub short : (v : ℕ) (q : PrefixView) → AllByRecursion (AsnFits x.net.settings.width) (path_in (word_of x.tables.heard v q))
  pub sent : (v : ℕ) (q : PrefixView) → IsPathWord (word_of x.tables.sent v q)
  pub kept : (q : PrefixView) → (IsNamed x.net.origins q → ⊥) → path_of x.tables.kept q ≡ []
  pub tellable : (q : PrefixView) → IsTellable x.net.settings.width (path_of x.tables.kept q)
  pub originated : (q : PrefixView) → lists x.tables.originated q ≡ true → IsNamed x.net.origins q

-- what is recorded and offered is this router's, over its links
pub record IsMarked (x : RouterView) : Type 0 where
  pub over : IsOver (peers x.net x.number) x.marks.unfinished
  pub unfinished : IsOf x.number x.marks.unfinished
  pub queue : AllByRecursion (λ offer. router_of offer ≡ x.number) x.marks.queue

-- what holds of every router of the code
pub record IsSound (x : RouterView) : Type 0 where
  pub network : IsNetwork x.net
  pub router : IsRouter x.net.routers x.number
  pub numbers : map (λ p. p.number) x.peers ≡ peers x.net x.number
  pub links : (v : ℕ) → listed v x.peers ≡ linked x.net x.number v
  pub own_open : x.own_open ≡ open_of x.net x.number
  pub sayable : (width : Width) → IsSayable width x.own_open
  pub stamp : x.stamp ≤ GREATEST_STAMP
  pub tabled : IsTabled x
  pub marked : IsMarked x

-- a call answers and leaves the router as it has to, in every setting of its network that chooses by rank
abbrev pub Answers : Result Stepped RouterError → RouterView → Call → RouterView → Type 0
Answers result x call y =
    (g : Setting) → g.net ≡ x.net → ChoosesByRank g
    → Gives g x.number result (answer g x.number (plain_of x) call) (plain_of x) call (plain_of y)

-- it is the same router of the same network
pub record IsSame (x y : RouterView) : Type 0 where
  pub net : y.net ≡ x.net
  pub number : y.number ≡ x.number

-- a router as it is made, in every setting of its network
abbrev pub Opens : Plan → ℕ → RouterView → Type 0
Opens net u x = (x.net ≡ net) × (x.number ≡ u) × ((g : Setting) → g.net ≡ net → plain_of x ≡ record { router = new_router g; stamp = 0 })

-- what `next_item` has to answer, by what the call Put has to answer
abbrev pub Shows : ℕ → Result (Option Item) RouterError → Answer → Type 0
Shows stamp result (Steps (puts v i)) =
    MatchResult result (λ shown. shown ≡ Some (record { stamp = stamp; what = i })) (λ why. why ≡ error.Memory)
Shows stamp result (Steps (alone own)) = ⊥
Shows stamp result (Steps (takes v i)) = ⊥
Shows stamp result (Steps (offers made)) = ⊥
Shows stamp result Idle = result ≡ Ok None
Shows stamp result (Refuses why) = result ≡ Err why

abbrev pub ShowsNext : Result (Option Item) RouterError → RouterView → ℕ → Type 0
ShowsNext result x v =
    (g : Setting) → g.net ≡ x.net → Shows (x.stamp + 1) result (answer g x.number (plain_of x) (Put v))

-- an item is put next towards the peer
abbrev pub HasNext : RouterView → ℕ → Type 0
HasNext x v = (shown : Item) × ShowsNext (Ok (Some shown)) x v

-- a step is done, or refused for its stamp, its numbers or want of memory
abbrev pub Ends : Bool → Bool → Result Stepped RouterError → Stamped → Stamped → Stamped → Type 0
Ends true overflows result r goal done = (result ≡ Err error.StampEnd) × (done ≡ r)
Ends false true result r goal done = (result ≡ Err error.EpochEnd) × (done ≡ r)
Ends false false result r goal done =
    MatchResult result (λ did. (did ≡ stepped.Did) × (done ≡ goal)) (λ why. (why ≡ error.Memory) × (done ≡ r))

-- a draft of one side is carried out, at this stamp
abbrev pub Carries : Result Stepped RouterError → RouterView → ℕ → AtHand → Draft → Bool → ℕ → RouterView → Type 0
Carries result x v h a overflows stamp y =
    Ends (nat_lt GREATEST_STAMP stamp) overflows result (plain_of x)
    (record { router = moved (plain_of x).router v h a; stamp = stamp }) (plain_of y)

-- a Dial or a Shut of a peer is taken at this stamp, or is refused
abbrev pub TakesSign : Result Stepped RouterError → RouterView → ℕ → Sign → ℕ → RouterView → Type 0
TakesSign result x v z stamp y =
    let a = draft_sign x.own_open (sides_of x v) z in
    Carries result x v NoMessage a a.overflows stamp y

-- a marker of a peer is taken at this stamp, or memory is wanting
abbrev pub TakesMark : Result Stepped RouterError → RouterView → ℕ → ℕ → ℕ → ℕ → RouterView → Type 0
TakesMark result x v n k stamp y =
    (g : Setting) → g.net ≡ x.net → ChoosesByRank g → MatchResult result
    (λ did. (did ≡ stepped.Did) × (plain_of y ≡ record { router = taken g x.number (plain_of x).router v (item.Mark n k); stamp = stamp }))
    (λ why. (why ≡ error.Memory) × (plain_of y ≡ plain_of x))

-- ---- offers

-- this offer of the router waits in front
abbrev pub IsOffered : RouterView → Offer → Type 0
IsOffered x offer = (next_offer (plain_of x).router ≡ Some (offer_of offer)) × (router_of offer ≡ x.number)

-- an offer waits
abbrev pub HasOffer : RouterView → Type 0
HasOffer x = is_some (next_offer (plain_of x).router) ≡ true

-- ---- which peer is told an UPDATE

-- a setting of the network in which nothing is chosen: which peer is told depends on no choice
abbrev pub unchosen : Plan → Setting
unchosen net = record { net = net; best = λ u q originated words. [] }

abbrev pub waits_at : RouterView → ℕ → Bool
waits_at x v = is_waiting_peer (unchosen x.net) x.number (plain_of x).router v

abbrev pub has_room_at : RouterView → ℕ → Bool
has_room_at x v = has_room (unchosen x.net) x.number (plain_of x).router v

-- the prefix stands at that place of the network
abbrev pub IsNamedAt : Plan → PrefixView → ℕ → Type 0
IsNamedAt net q j = slice_get (map (λ origin. origin.prefix) net.origins) j ≡ Some q

-- the peer at this place was not told the kept path of this prefix, the least one
pub record MayTell (x : RouterView) (j : ℕ) (q : PrefixView) : Type 0 where
  pub peer : ℕ
  pub place : IsAt x.peers peer j
  pub waits : unadvertised (unchosen x.net) x.number (plain_of x).router peer ≡ Some q

-- the first peer that waits and has room; if none has room, the first that waits
abbrev pub IsNext : RouterView → Next → Type 0
IsNext x (next.Peer j prefix_place q) =
    (found : MayTell x j q) × (find (has_room_at x) (peers x.net x.number) ≡ Some found.peer)
    × IsNamedAt x.net q prefix_place
IsNext x (next.Blocked v) = (find (has_room_at x) (peers x.net x.number) ≡ None) × (find (waits_at x) (peers x.net x.number) ≡ Some v)
IsNext x next.Nobody = (find (has_room_at x) (peers x.net x.number) ≡ None) × (find (waits_at x) (peers x.net x.number) ≡ None)

-- the kept path of a prefix is told to a peer
abbrev pub told_to : Stamped → Plan → ℕ → ℕ → PrefixView → Stamped
told_to r net u v q = record {
  router = with_side r.router v (λ s. told s (telling (identifier net.routers u) q (r.router.kept q)));
  stamp = r.stamp + 1;
}

abbrev pub Tells : Result Stepped RouterError → RouterView → ℕ → PrefixView → RouterView → Type 0
Tells result x v q y =
    Ends (nat_lt GREATEST_STAMP (x.stamp + 1)) false result (plain_of x)
    (told_to (plain_of x) x.net x.number v q) (plain_of y)
