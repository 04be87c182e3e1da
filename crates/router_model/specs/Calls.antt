-- What each call of a router answers: a step, nothing, or a refusal. A call settles what the definition of a step
-- leaves open: a put takes as much as it may, and an UPDATE goes to the least peer that waits and has room.
-- g is a setting, x a router, r one with its stamp, u v routers' numbers, c a command, e an event, i an item, k a
-- snapshot's number, q a prefix.
use Rattle.std.specs.Prelude.{ℕ, ◌+◌, ◌≡◌, max, nat_lt, Bool, true, false, ◌&&◌, not, Option, None, Some, is_some, Result, Ok, Err, MatchResult}
use Rattle.std.specs.List.{find}
use Rattle.bgp_framing.specs.Held.{is_waiting}
use Rattle.run_model.specs.declared.stamps.TheConstants.{GREATEST_STAMP}
use Rattle.router_model.specs.declared.limits.TheConstants.{OUTBOX_LIMIT}
use Rattle.run_model.specs.Network.{alone, puts, takes}
use Rattle.outbox.specs.Items.{next_item, octets_waiting}
use Rattle.router_model.specs.declared.command.Command.{Command}
use Rattle.router_model.specs.declared.command.Command.TheVariants as command
use Rattle.outbox.specs.declared.item.What.{What}
use Rattle.router_model.specs.declared.refusal.RouterError.{RouterError}
use Rattle.router_model.specs.declared.refusal.RouterError.TheVariants as error
use Rattle.router_model.specs.declared.refusal.Stepped.{Stepped}
use Rattle.router_model.specs.declared.refusal.Stepped.TheVariants as stepped
use Rattle.router_model.specs.Settings.{Setting, linked, peers, is_origin}
use Rattle.router_model.specs.State.{Router, undecided, is_waiting_peer}
use Rattle.router_model.specs.Step.{Obeys, Ticks, Handles, Decides, Advertises, RouterEvent, after, overflows, is_greater, without_offer}

-- a router with the stamp of its last event
pub record Stamped : Type 0 where
  pub router : Router
  pub stamp : ℕ

-- the calls: a command, a second that passes, what the router does by itself, the next put towards a peer, and an item with its stamp that comes from a peer
pub data Call : Type 0 where
  Obey : (command : Command) → Call
  Tick : Call
  Put : (peer : ℕ) → Call
  Take : (peer stamp : ℕ) (what : What) → Call
  Handle : (peer : ℕ) → Call
  Decide : Call
  Advertise : Call

-- what a call answers
pub data Answer : Type 0 where
  Steps : (event : RouterEvent) → Answer
  Idle : Answer
  Refuses : (why : RouterError) → Answer

-- ---- the order of judging: what bars the event, whether there is one, its stamp, its numbers, and want of memory last

abbrev pub judged : Option RouterError → Option RouterEvent → (stamp_ends : Bool) → (overflows : Bool) → Answer
judged (Some why) event stamp_ends overflows = Refuses why
judged None None stamp_ends overflows = Idle
judged None (Some e) true overflows = Refuses error.StampEnd
judged None (Some e) false true = Refuses error.EpochEnd
judged None (Some e) false false = Steps e

abbrev pub unless : Bool → RouterError → Option RouterError
unless true why = None
unless false why = Some why

abbrev pub first_of : Option RouterError → Option RouterError → Option RouterError
first_of None other = other
first_of (Some why) other = Some why

abbrev pub if_so : Bool → RouterEvent → Option RouterEvent
if_so true e = Some e
if_so false e = None

abbrev pub put_event : ℕ → Option What → Option RouterEvent
put_event v None = None
put_event v (Some i) = Some (puts v i)

abbrev pub advertise_event : Option ℕ → Option RouterEvent
advertise_event None = None
advertise_event (Some v) = Some (alone (Advertises v))

-- the refusal if every peer that waits is at the limit: it names the least one
abbrev pub blocked : Option ℕ → Option ℕ → Option RouterError
blocked (Some v) waiting = None
blocked None None = None
blocked None (Some v) = Some (error.Blocked v)

module _ (g : Setting) (u : ℕ) where
  -- a peer waits to be told and its outbox is below the limit
  abbrev pub has_room : Router → ℕ → Bool
  has_room x v = is_waiting_peer g u x v && nat_lt (octets_waiting (x.sides v).outbox) OUTBOX_LIMIT

  -- what bars a call
  abbrev pub bars_command : Router → Command → Option RouterError
  bars_command x (command.Start v) = unless (linked g.net u v) error.NoSuchPeer
  bars_command x (command.Stop v) = unless (linked g.net u v) error.NoSuchPeer
  bars_command x (command.Reset v) = unless (linked g.net u v) error.NoSuchPeer
  bars_command x (command.Originate q) = unless (is_origin g.net.origins u q) error.NotOrigin
  bars_command x (command.Withdraw q) = unless (is_origin g.net.origins u q) error.NotOrigin
  bars_command x (command.Snapshot k) = unless (is_greater x k) (error.OldSnapshot x.snapshots.last)
  bars_command x command.Restart = None

  abbrev pub bars : Router → Call → Option RouterError
  bars x (Obey c) = bars_command x c
  bars x Tick = None
  bars x (Put v) = unless (linked g.net u v) error.NoSuchPeer
  bars x (Take v stamp i) =
      first_of (unless (linked g.net u v) error.NoSuchPeer) (unless (not (is_waiting (x.sides v).held)) (error.Held v))
  bars x (Handle v) = unless (linked g.net u v) error.NoSuchPeer
  bars x Decide = None
  bars x Advertise = blocked (find (has_room x) (peers g.net u)) (find (is_waiting_peer g u x) (peers g.net u))

  -- the event of a call, if there is one
  abbrev pub command_event : Router → Command → Option RouterEvent
  command_event x (command.Originate q) = if_so (not (x.originated q)) (alone (Obeys (command.Originate q)))
  command_event x (command.Withdraw q) = if_so (x.originated q) (alone (Obeys (command.Withdraw q)))
  command_event x c = Some (alone (Obeys c))

  abbrev pub event_of : Router → Call → Option RouterEvent
  event_of x (Obey c) = command_event x c
  event_of x Tick = Some (alone Ticks)
  event_of x (Put v) = put_event v (next_item g.net.settings.cut (x.sides v).outbox)
  event_of x (Take v stamp i) = Some (takes v i)
  event_of x (Handle v) = if_so (is_waiting (x.sides v).held) (alone (Handles v))
  event_of x Decide = if_so (is_some (undecided g u x)) (alone Decides)
  event_of x Advertise = advertise_event (find (has_room x) (peers g.net u))

  -- the stamp of a call's event: one above the router's last and that of the item
  abbrev pub stamp_of : Stamped → Call → ℕ
  stamp_of r (Take v stamp i) = max r.stamp stamp + 1
  stamp_of r _ = r.stamp + 1

  abbrev pub overflows_at : Router → Option RouterEvent → Bool
  overflows_at x None = false
  overflows_at x (Some e) = overflows g u x e

  abbrev pub answer : Stamped → Call → Answer
  answer r call =
      judged (bars r.router call) (event_of r.router call) (nat_lt GREATEST_STAMP (stamp_of r call)) (overflows_at r.router (event_of r.router call))

  abbrev pub stamped_after : Stamped → Call → RouterEvent → Stamped
  stamped_after r call e = record { router = after g u r.router e; stamp = stamp_of r call }

  -- what a call has to give and to leave: a step is done, or wants memory; any other answer changes nothing
  abbrev pub Gives : Result Stepped RouterError → Answer → Stamped → Call → Stamped → Type 0
  Gives result (Steps e) r call done =
      MatchResult result (λ did. (did ≡ stepped.Did) × (done ≡ stamped_after r call e))
      (λ why. (why ≡ error.Memory) × (done ≡ r))
  Gives result Idle r call done = (result ≡ Ok stepped.Nothing) × (done ≡ r)
  Gives result (Refuses why) r call done = (result ≡ Err why) × (done ≡ r)

-- ---- offers

-- the router once its offer is made, by an event with this stamp
abbrev pub offer_made : Stamped → ℕ → Stamped
offer_made r stamp = record { router = without_offer r.router; stamp = stamp }

-- ---- the calls and the steps

-- the events that a call can be
abbrev pub IsEventOf : Call → RouterEvent → Type 0
IsEventOf (Obey c) e = e ≡ alone (Obeys c)
IsEventOf Tick e = e ≡ alone Ticks
IsEventOf (Put v) e = (i : What) × (e ≡ puts v i)
IsEventOf (Take v stamp i) e = e ≡ takes v i
IsEventOf (Handle v) e = e ≡ alone (Handles v)
IsEventOf Decide e = e ≡ alone Decides
IsEventOf Advertise e = (v : ℕ) × (e ≡ alone (Advertises v))
