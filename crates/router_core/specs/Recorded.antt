-- The part that a router records of a snapshot, as the code has it: lists by prefix and by peer.
-- g is a setting, x y a router before and behind, u v routers' numbers, p a peer, s a side, k a snapshot's number.
use Rattle.std.specs.Prelude.{ℕ, ◌≡◌, true, false, cond, List, [], ◌∷◌, map, filter, Option, None, Some, Result, MatchResult}
use Rattle.prefix_lanes.specs.Bits.{PrefixView}
use Rattle.ranked_policy.specs.declared.network.Origin.{Origin}
use Rattle.rib_tables.specs.Words.{lists}
use Rattle.rib_tables.specs.Tables.{Paths, path_of}
use Rattle.snap_marker.specs.declared.part.KeptPath.{KeptPath}
use Rattle.rib_tables.specs.Least.{HoldsOfAll}
use Rattle.rib_tables.specs.Owners.{RibView, IsSettled, AllServed, IsPending}
use Rattle.snap_marker.specs.declared.part.Part.{Part}
use Rattle.snap_marker.specs.Parts.{Seen, seen, part_of}
use Rattle.router_model.specs.declared.refusal.RouterError.{RouterError}
use Rattle.router_model.specs.declared.refusal.RouterError.TheVariants as error
use Rattle.router_model.specs.declared.refusal.Stepped.{Stepped}
use Rattle.router_model.specs.declared.refusal.Stepped.TheVariants as stepped
use Rattle.router_model.specs.Settings.{Setting, ChoosesByRank}
use Rattle.router_model.specs.Sides.{Side, marked, is_up}
use Rattle.router_model.specs.Step.{awaits_marker, recorded_part, records}
use Rattle.router_side.specs.SideOf.{side, HasRoomToMark}
use Rattle.router_core.specs.declared.peers.Peer.{Peer}
use Rattle.router_core.specs.Views.{RouterView, plain_of, listed}

-- the path kept for each prefix that the network names
abbrev pub paths_of : List Origin → Paths → List KeptPath
paths_of origins kept = map (λ origin. record { prefix = origin.prefix; path = path_of kept origin.prefix }) origins

-- the prefixes that the network names and the router originates
abbrev pub own_of : List Origin → List PrefixView → List PrefixView
own_of origins originated = filter (lists originated) (map (λ origin. origin.prefix) origins)

-- a channel for each peer, open but for the one whose marker came
abbrev pub channels_of : Option ℕ → List Peer → List Seen
channels_of first ps = map (λ p. record {
  peer = p.number;
  epoch = (side p.side).link.epoch;
  is_open =
      awaits_marker first p.number;
  updates = [];
}) ps

-- the first peer whose session is not Established
abbrev pub down_in : List Peer → Option ℕ
down_in [] = None
down_in (p ∷ ps) = cond (is_up (side p.side)) (down_in ps) (Some p.number)

-- each peer stays, and its side changes in this way
abbrev pub Become : (Side → Side) → List Peer → List Peer → Type 0
Become change [] [] = Unit {0}
Become change (p ∷ ps) (other ∷ others) =
    (other.number ≡ p.number) × (side other.side ≡ change (side p.side)) × Become change ps others
Become change [] (other ∷ others) = ⊥
Become change (p ∷ ps) [] = ⊥

-- each side has room for a marker
abbrev pub HaveRoomToMark : List Peer → Type 0
HaveRoomToMark [] = Unit {0}
HaveRoomToMark (p ∷ ps) = HasRoomToMark p.side × HaveRoomToMark ps

-- the marker goes to a peer whose session is Established
abbrev pub marked_if_up : ℕ → Side → Side
marked_if_up k s = cond (is_up s) (marked k s) s

-- the part of a snapshot that a router with these tables and peers records now
pub record IsPart (origins : List Origin) (tables : RibView) (ps : List Peer) (u k : ℕ) (first : Option ℕ)
    (part : Part) : Type 0 where
  pub router : part.router ≡ u
  pub number : part.number ≡ k
  pub kept : part.kept.items ≡ paths_of origins tables.kept
  pub originated : part.originated.items ≡ own_of origins tables.originated
  pub channels : map seen part.channels.items ≡ channels_of first ps
  pub some : part.pending ≡ true → IsPending tables
  pub none : part.pending ≡ false → HoldsOfAll tables.net.origins (IsSettled tables) × AllServed tables

-- the part that the router would record now, in every setting of its network that chooses by rank
pub record IsStateOf (x : RouterView) (part : Part) : Type 0 where
  pub router : part.router ≡ x.number
  pub number : part.number ≡ 0
  pub state : (g : Setting) → g.net ≡ x.net → ChoosesByRank g
      → part_of part ≡ recorded_part g x.number (plain_of x).router

-- the marker came from a peer, or a command came
abbrev pub IsPeer : List Peer → Option ℕ → Type 0
IsPeer ps None = Unit {0}
IsPeer ps (Some v) = listed v ps ≡ true

-- a snapshot is recorded at this stamp, or memory is wanting
abbrev pub RecordsAt : Result Stepped RouterError → RouterView → ℕ → Option ℕ → ℕ → RouterView → Type 0
RecordsAt result x k first stamp y =
    (g : Setting) → g.net ≡ x.net → ChoosesByRank g → MatchResult result
    (λ did. (did ≡ stepped.Did) × (plain_of y ≡ record { router = records g x.number (plain_of x).router k first; stamp = stamp }))
    (λ why. (why ≡ error.Memory) × (plain_of y ≡ plain_of x))
