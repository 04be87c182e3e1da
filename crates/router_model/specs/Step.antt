-- The steps of one router: where each event may come, and what it leaves. The event itself has what a router may
-- choose: how many octets a put takes, and which peer is told an UPDATE.
-- g is a setting, x y a router before and behind, u v w routers' numbers, s a side, a a draft, c a command, e an event,
-- f a session's, h what is at hand, i an item, z a sign, k a snapshot's number, n an incarnation, q a prefix, b a Bool.
use Rattle.std.specs.Prelude.{ℕ, ◌≡◌, ◌≤◌, ◌==◌, nat_lt, Bool, true, false, ◌&&◌, not, cond, List, [], ◌∷◌, length, drop, slice_get, Option, None, Some, is_some}
use Rattle.std.specs.List.{list_any}
use mathlib.Core.List.{IsPrefix}
use Rattle.prefix_lanes.specs.Bits.{PrefixView, is_prefix}
use Rattle.bgp_codec.specs.declared.message.Message.{Message}
use Rattle.bgp_codec.specs.declared.message.Message.TheVariants.{UpdateMsg}
use Rattle.bgp_codec.specs.declared.update.Update.{Update}
use Rattle.bgp_framing.specs.Held.{is_waiting}
use Rattle.link_epoch.specs.declared.link_end.Sign.{Sign}
use Rattle.link_epoch.specs.declared.link_end.Sign.TheVariants as sign
use Rattle.session_fsm.specs.declared.event.FsmEvent.{FsmEvent}
use Rattle.session_fsm.specs.declared.event.FsmEvent.TheVariants.{ManualStart, ManualStop}
use Rattle.run_model.specs.Links.{Entry, Says, Mark}
use Rattle.run_model.specs.Network.{Event, alone, puts, takes, offers}
use Rattle.outbox.specs.Items.{passes}
use Rattle.router_model.specs.declared.command.Command.{Command}
use Rattle.router_model.specs.declared.command.Command.TheVariants as command
use Rattle.outbox.specs.declared.item.What.{What}
use Rattle.outbox.specs.declared.item.What.TheVariants as item
use Rattle.router_model.specs.Sides.{Side, Draft, AtHand, NoMessage, HasFault, HasUpdate, draft_event, draft_reset, draft_second, draft_sign, draft_message, front, at_hand, without_front, fed, uses, carried, told, marked, is_up}
use Rattle.snap_marker.specs.Recordings.{RouterPart, RouterOffer, MadeOffer, Recording, Snapshots, closed, acted_on, ends_channel, begun}
use Rattle.router_model.specs.Settings.{Setting, linked, peers, is_origin, identifier}
use Rattle.router_model.specs.State.{Router, open_of, rule_of, telling, undecided, unadvertised, best_path, is_pending}

-- what a router does alone
pub data Own : Type 0 where
  Obeys : (command : Command) → Own
  Ticks : Own
  Handles : (peer : ℕ) → Own
  Decides : Own
  Advertises : (peer : ℕ) → Own

abbrev pub RouterEvent : Type 0
RouterEvent = Event Own What MadeOffer

-- a piece has at least one octet, and at most so many
abbrev pub HasSize : ℕ → What → Type 0
HasSize cut (item.Piece n octets) = (1 ≤ length octets) × (length octets ≤ cut)
HasSize cut (item.Dial n) = Unit {0}
HasSize cut (item.Mark n k) = Unit {0}
HasSize cut (item.Shut n) = Unit {0}

-- ---- changes of a router

abbrev pub with_side : Router → ℕ → (Side → Side) → Router
with_side x v change = record x { sides = λ w. cond (w == v) (change (x.sides w)) (x.sides w) }

-- the peer and the incarnation of a draft that leaves Established, and of the first of several peers' drafts that does
abbrev pub close_at : ℕ → Option ℕ → Option (ℕ × ℕ)
close_at v None = None
close_at v (Some n) = Some (v, n)

abbrev pub or_first : Option (ℕ × ℕ) → Option (ℕ × ℕ) → Option (ℕ × ℕ)
or_first None other = other
or_first (Some close) other = Some close

abbrev pub first_close : List ℕ → (ℕ → Draft) → Option (ℕ × ℕ)
first_close [] drafts = None
first_close (v ∷ vs) drafts = or_first (close_at v (drafts v).left) (first_close vs drafts)

-- an UPDATE that is acted on joins the recorded channel of its peer
abbrev pub seen : Bool → AtHand → ℕ → Snapshots → Snapshots
seen true (HasUpdate update) v snapshots = acted_on v (UpdateMsg update) snapshots
seen true NoMessage v snapshots = snapshots
seen true (HasFault fault) v snapshots = snapshots
seen false h v snapshots = snapshots

-- the draft of one side is carried out; a side that leaves Established loses the recording
abbrev pub moved : Router → ℕ → AtHand → Draft → Router
moved x v h a = record x {
  sides = λ w. cond (w == v) (carried h (x.sides w) a) (x.sides w);
  snapshots = seen a.acts h v (closed (close_at v a.left) x.snapshots);
}

-- an item is put: it was in front of the outbox
abbrev pub put_from : Side → What → Side
put_from s i = record s { outbox = drop (length (passes i)) s.outbox }

abbrev pub originating : Router → PrefixView → Bool → Router
originating x q b = record x { originated = λ other. cond (is_prefix q other) b (x.originated other) }

abbrev pub keeping : Router → Option PrefixView → (PrefixView → List ℕ) → Router
keeping x None path_of = x
keeping x (Some q) path_of = record x { kept = λ other. cond (is_prefix q other) (path_of q) (x.kept other) }

abbrev pub telling_to : Router → ℕ → Option PrefixView → (PrefixView → Update) → Router
telling_to x v None update_of = x
telling_to x v (Some q) update_of = with_side x v (λ s. told s (update_of q))

abbrev pub forgetting : Router → Router
forgetting x = record x { kept = λ q. []; originated = λ q. false }

-- a recording waits for the marker of each peer but the one whose marker came first
abbrev pub awaits_marker : Option ℕ → ℕ → Bool
awaits_marker None v = true
awaits_marker (Some first) v = not (v == first)

-- the number is above the last recorded one
abbrev pub is_greater : Router → ℕ → Bool
is_greater x k = nat_lt x.snapshots.last k

-- the offer that waits in front, and the router once that offer is made
abbrev pub next_offer : Router → Option RouterOffer
next_offer x = slice_get x.snapshots.queue 0

abbrev pub without_offer : Router → Router
without_offer x = record x { snapshots = record x.snapshots { queue = drop 1 x.snapshots.queue } }

abbrev pub says_where : Bool → List (Entry Message) → List (Entry Message)
says_where b entries = cond b entries []

module _ (g : Setting) (u : ℕ) where
  -- ---- the drafts of its events

  abbrev pub meets_at : Router → ℕ → FsmEvent → Draft
  meets_at x v f = draft_event (open_of g.net u) (x.sides v) f

  abbrev pub resets_at : Router → ℕ → Draft
  resets_at x v = draft_reset (open_of g.net u) (x.sides v)

  abbrev pub second_at : Router → ℕ → Draft
  second_at x v = draft_second (open_of g.net u) (x.sides v)

  abbrev pub signed_at : Router → ℕ → Sign → Draft
  signed_at x v z = draft_sign (open_of g.net u) (x.sides v) z

  abbrev pub handled_at : Router → ℕ → Draft
  handled_at x v = draft_message (open_of g.net u) (front (rule_of g.net u v) (x.sides v).held) (x.sides v)

  -- the drafts of all peers' sides are carried out
  abbrev pub all_moved : Router → (ℕ → Draft) → Router
  all_moved x drafts = record x {
    sides = λ v. cond (linked g.net u v) (carried NoMessage (x.sides v) (drafts v)) (x.sides v);
    snapshots = closed (first_close (peers g.net u) drafts) x.snapshots;
  }

  -- the UPDATE that tells a peer of a prefix
  abbrev pub telling_of : Router → PrefixView → Update
  telling_of x q = telling (identifier g.net.routers u) q (x.kept q)

  -- ---- what is recorded, and a marker that comes (Chandy and Lamport 1985)

  abbrev pub recorded_part : Router → RouterPart
  recorded_part x = record {
    kept = x.kept;
    originated = x.originated;
    incarnation = λ v. (x.sides v).link.epoch;
    pending = is_pending g u x;
    channel = λ v. [];
  }

  abbrev pub recording_of : Router → ℕ → Option ℕ → Recording
  recording_of x k first = record { number = k; part = recorded_part x; waits = awaits_marker first }

  -- the recording takes the state as it is; markers go to every Established peer, behind all that was appended before
  abbrev pub records : Router → ℕ → Option ℕ → Router
  records x k first = record x {
    sides = λ v. cond (linked g.net u v && is_up (x.sides v)) (marked k (x.sides v)) (x.sides v);
    snapshots = begun (peers g.net u) (λ v. is_up (x.sides v)) (recording_of x k first) x.snapshots;
  }

  -- a marker is heeded in Established alone, for the incarnation that the end joined
  abbrev pub heeds : Router → ℕ → ℕ → Bool
  heeds x v n = is_up (x.sides v) && uses (x.sides v).link n

  -- a greater number is recorded; any other may end a channel
  abbrev pub marked_by : Router → ℕ → ℕ → Router
  marked_by x v k =
      cond (is_greater x k) (records x k (Some v))
      (record x { snapshots = ends_channel (peers g.net u) v k x.snapshots.unfinished x.snapshots })

  -- ---- an item is taken

  abbrev pub taken : Router → ℕ → What → Router
  taken x v (item.Dial n) = moved x v NoMessage (signed_at x v (sign.Dial n))
  taken x v (item.Piece n octets) = with_side x v (λ s. fed s n octets)
  taken x v (item.Mark n k) = cond (heeds x v n) (marked_by x v k) x
  taken x v (item.Shut n) = moved x v NoMessage (signed_at x v (sign.Shut n))

  -- ---- the steps

  abbrev pub obeyed : Router → Command → Router
  obeyed x (command.Start v) = moved x v NoMessage (meets_at x v ManualStart)
  obeyed x (command.Stop v) = moved x v NoMessage (meets_at x v ManualStop)
  obeyed x (command.Reset v) = moved x v NoMessage (resets_at x v)
  obeyed x (command.Originate q) = originating x q true
  obeyed x (command.Withdraw q) = originating x q false
  obeyed x (command.Snapshot k) = records x k None
  obeyed x command.Restart = forgetting (all_moved x (λ v. meets_at x v ManualStop))

  -- where an event may come: to originate twice, or to withdraw what is not originated, is no event; a message is
  -- handled if a whole one or a fault waits, and an item is taken if none does
  abbrev pub MayObey : Router → Command → Type 0
  MayObey x (command.Start v) = linked g.net u v ≡ true
  MayObey x (command.Stop v) = linked g.net u v ≡ true
  MayObey x (command.Reset v) = linked g.net u v ≡ true
  MayObey x (command.Originate q) = (is_origin g.net.origins u q ≡ true) × (x.originated q ≡ false)
  MayObey x (command.Withdraw q) = (is_origin g.net.origins u q ≡ true) × (x.originated q ≡ true)
  MayObey x (command.Snapshot k) = is_greater x k ≡ true
  MayObey x command.Restart = Unit {0}

  abbrev pub May : Router → RouterEvent → Type 0
  May x (alone (Obeys c)) = MayObey x c
  May x (alone Ticks) = Unit {0}
  May x (alone (Handles v)) = (linked g.net u v ≡ true) × (is_waiting (x.sides v).held ≡ true)
  May x (alone Decides) = is_some (undecided g u x) ≡ true
  May x (alone (Advertises v)) = is_some (unadvertised g u x v) ≡ true
  May x (puts v i) = (linked g.net u v ≡ true) × HasSize g.net.settings.cut i × IsPrefix (passes i) (x.sides v).outbox
  May x (takes v i) = (linked g.net u v ≡ true) × (is_waiting (x.sides v).held ≡ false)
  May x (offers made) = (made.router ≡ u) × (next_offer x ≡ Some made.offer)

  -- what an event leaves
  abbrev pub after : Router → RouterEvent → Router
  after x (alone (Obeys c)) = obeyed x c
  after x (alone Ticks) = all_moved x (second_at x)
  after x (alone (Handles v)) =
      moved (with_side x v without_front) v (at_hand (front (rule_of g.net u v) (x.sides v).held)) (handled_at x v)
  after x (alone Decides) = keeping x (undecided g u x) (best_path g u x)
  after x (alone (Advertises v)) = telling_to x v (unadvertised g u x v) (telling_of x)
  after x (puts v i) = with_side x v (λ s. put_from s i)
  after x (takes v i) = taken x v i
  after x (offers made) = without_offer x

  -- a dial of an event would pass the greatest incarnation: a start, a reset and a tick dial a number, and a Dial that
  -- is taken may be answered by one
  abbrev pub overflows_by : Router → Command → Bool
  overflows_by x (command.Start v) = (meets_at x v ManualStart).overflows
  overflows_by x (command.Reset v) = (resets_at x v).overflows
  overflows_by x _ = false

  abbrev pub overflows_taking : Router → ℕ → What → Bool
  overflows_taking x v (item.Dial n) = (signed_at x v (sign.Dial n)).overflows
  overflows_taking x v _ = false

  abbrev pub overflows : Router → RouterEvent → Bool
  overflows x (alone (Obeys c)) = overflows_by x c
  overflows x (takes v i) = overflows_taking x v i
  overflows x (alone Ticks) = list_any (λ v. (second_at x v).overflows) (peers g.net u)
  overflows x _ = false

  -- a step: an event that may come, whose numbers fit, and what it leaves
  pub record Step (x : Router) (e : RouterEvent) (y : Router) : Type 0 where
    pub may : May x e
    pub numbers : overflows x e ≡ false
    pub leaves : y ≡ after x e

  -- ---- what a step appends towards a peer

  abbrev pub says_markers : Router → ℕ → ℕ → List (Entry Message)
  says_markers x k v = says_where (linked g.net u v && is_up (x.sides v)) (Mark (x.sides v).link.epoch k ∷ [])

  abbrev pub says_by : Router → Command → ℕ → List (Entry Message)
  says_by x (command.Start w) v = says_where (v == w) (meets_at x w ManualStart).says
  says_by x (command.Stop w) v = says_where (v == w) (meets_at x w ManualStop).says
  says_by x (command.Reset w) v = says_where (v == w) (resets_at x w).says
  says_by x (command.Originate q) v = []
  says_by x (command.Withdraw q) v = []
  says_by x (command.Snapshot k) v = says_markers x k v
  says_by x command.Restart v = says_where (linked g.net u v) (meets_at x v ManualStop).says

  abbrev pub says_of_taken : Router → ℕ → What → ℕ → List (Entry Message)
  says_of_taken x w (item.Dial n) v = says_where (v == w) (signed_at x w (sign.Dial n)).says
  says_of_taken x w (item.Piece n octets) v = []
  says_of_taken x w (item.Mark n k) v = says_where (heeds x w n && is_greater x k) (says_markers x k v)
  says_of_taken x w (item.Shut n) v = says_where (v == w) (signed_at x w (sign.Shut n)).says

  abbrev pub says_update : Router → ℕ → Option PrefixView → List (Entry Message)
  says_update x v None = []
  says_update x v (Some q) = Says (x.sides v).link.epoch (UpdateMsg (telling_of x q)) ∷ []

  abbrev pub says : Router → RouterEvent → ℕ → List (Entry Message)
  says x (alone (Obeys c)) v = says_by x c v
  says x (alone Ticks) v = says_where (linked g.net u v) (second_at x v).says
  says x (alone (Handles w)) v = says_where (v == w) (handled_at x w).says
  says x (alone Decides) v = []
  says x (alone (Advertises w)) v = says_where (v == w) (says_update x v (unadvertised g u x w))
  says x (puts w i) v = []
  says x (takes w i) v = says_of_taken x w i v
  says x (offers made) v = []
