-- What a router shows of itself, by peer.
-- x is a router, v a router's number.
use Rattle.std.specs.Prelude.{ℕ, ◌≡◌, ◌&&◌, Bool, true, cond, Option, None, Some, Result}
use Rattle.std.specs.List.{find}
use Rattle.prefix_lanes.specs.Bits.{PrefixView}
use Rattle.bgp_codec.specs.declared.fault.Fault.{Fault}
use Rattle.bgp_codec.specs.declared.message.Message.{Message}
use Rattle.bgp_framing.specs.Held.{is_waiting}
use Rattle.ranked_policy.specs.Plans.{IsNamed}
use Rattle.rib_tables.specs.Tables.{Words, word_of}
use Rattle.rib_tables.specs.declared.word.Word.{Word}
use Rattle.router_model.specs.Settings.{linked, peers}
use Rattle.router_model.specs.Sides.{Side, front}
use Rattle.router_model.specs.State.{unadvertised}
use Rattle.router_side.specs.SideOf.{naming}
use Rattle.router_core.specs.Views.{RouterView, plain_of, sides_of, unchosen, has_room_at}

-- an answer about the side towards a peer, if a link leads to the peer
abbrev pub of_peer : {A : Type 0} → RouterView → ℕ → (Side → A) → Option A
of_peer x v says = cond (linked x.net x.number v) (Some (says (sides_of x v))) None

-- a link leads to the peer, and a whole message or a fault of it waits to be handled
abbrev pub has_front : RouterView → ℕ → Bool
has_front x v = linked x.net x.number v && is_waiting (sides_of x v).held

-- the message or fault of a peer that stands in front, as this router reads it
abbrev pub front_of : RouterView → ℕ → Result Message Fault
front_of x v = front (naming x.net.settings.width x.number v) (sides_of x v).held

-- for a linked peer and a prefix that the network names, these words have what the side towards the peer says now
abbrev pub IsSaidNow : RouterView → ℕ → PrefixView → Words → (Side → PrefixView → Word) → Type 0
IsSaidNow x v q words now =
    linked x.net x.number v ≡ true → IsNamed x.net.origins q → word_of words v q ≡ now (sides_of x v) q

-- the first peer that waits and has room, and its least prefix; none if no peer does
abbrev pub IsToldNext : RouterView → Option (ℕ × PrefixView) → Type 0
IsToldNext x None = find (has_room_at x) (peers x.net x.number) ≡ None
IsToldNext x (Some pair) =
    (find (has_room_at x) (peers x.net x.number) ≡ Some pair.0)
    × (unadvertised (unchosen x.net) x.number (plain_of x).router pair.0 ≡ Some pair.1)
