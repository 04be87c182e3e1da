-- Small cases that show what the definitions say: two routers of one link, and a router whose peer is hostile.
-- r is a router with its stamp, u v routers' numbers, e an event, i an item, q a prefix.
use Rattle.std.specs.Prelude.{ℕ, ◌+◌, ◌≡◌, ◌==◌, false, cond, List, [], ◌∷◌, ◌++◌, length, Option, Some, Ok, Err, replicate}
use Rattle.marker_lanes.specs.Marker.{marker}
use Rattle.prefix_lanes.specs.Bits.{PrefixView}
use Rattle.link_epoch.specs.declared.link_end.Phase.TheVariants.{Joined}
use Rattle.session_fsm.specs.declared.state.State.TheVariants.{Idle, Active, OpenSent, OpenConfirm, Established}
use Rattle.bgp_values.specs.declared.width.Width.TheVariants.{Two, Four}
use Rattle.bgp_codec.specs.declared.fault.Fault.{Fault}
use Rattle.bgp_codec.specs.Faults.{reading}
use Rattle.bgp_codec.specs.Spelling.{written}
use Rattle.ranked_policy.specs.Plans.{Plan}
use Rattle.run_model.specs.Network.{alone, takes}
use Rattle.outbox.specs.Items.{next_item}
use Rattle.router_model.specs.declared.command.Command.TheVariants as command
use Rattle.outbox.specs.declared.item.What.{What}
use Rattle.outbox.specs.declared.item.What.TheVariants as item
use Rattle.router_model.specs.declared.refusal.RouterError.TheVariants as error
use Rattle.rib_tables.specs.declared.word.Word.TheVariants.{Sequence}
use Rattle.run_model.specs.Octets.{octets_of}
use Rattle.router_model.specs.Settings.{Setting}
use Rattle.router_model.specs.Sides.{Side}
use Rattle.router_model.specs.State.{open_of, rule_of, new_side, new_router, heard}
use Rattle.router_model.specs.Step.{Obeys, Ticks, Handles, Decides, Advertises}
use Rattle.router_model.specs.Calls.{Stamped, Call, Obey, Tick, Put, Take, Handle, Decide, Advertise, Answer, Steps, Refuses, answer, stamped_after}
use Rattle.router_model.specs.Calls as calls

-- routers 1 and 2, linked; router 1 is the origin of 10.1.0.0/16
abbrev pub p : PrefixView
p = record { addr = 167837696; len = 16 }

abbrev pub pair : Plan
pair = record {
  settings = record { hold = 90; restart = 0; cut = 4096; pipe = 64; width = Two };
  routers = record { asn = 1; id = 167772161; rules = [] } ∷ record { asn = 2; id = 167772162; rules = [] } ∷ [];
  links = record { one = 1; other = 2 } ∷ [];
  origins = record { prefix = p; router = 1 } ∷ [];
}

-- router 2 goes through router 1
abbrev pub behind : List ℕ → List ℕ
behind [] = []
behind (v ∷ path) = 2 ∷ v ∷ path

abbrev pub setting : Setting
setting = record { net = pair; best = λ u q originated words. cond (u == 1) (cond originated (1 ∷ []) []) (behind (words 1)) }

abbrev pub fresh : ℕ → Stamped
fresh u = record { router = new_router setting; stamp = 0 }

-- the state that calls leave, and the answer of the next one
abbrev pub left_by : Stamped → Call → Answer → ℕ → Stamped
left_by r call (Steps e) u = stamped_after setting u r call e
left_by r call calls.Idle u = r
left_by r call (Refuses why) u = r

abbrev pub after_calls : ℕ → Stamped → List Call → Stamped
after_calls u r [] = r
after_calls u r (call ∷ list) = after_calls u (left_by r call (answer setting u r call) u) list

abbrev pub answers : ℕ → Stamped → List Call → List Answer
answers u r [] = []
answers u r (call ∷ list) = answer setting u r call ∷ answers u (left_by r call (answer setting u r call) u) list

-- a prefix is originated and decided once; no peer is there to be told; router 2 is no origin
abbrev pub OriginatesOnce : Type 0
OriginatesOnce =
    (answers 1 (fresh 1) (Obey (command.Originate p) ∷ Obey (command.Originate p) ∷ Decide ∷ Decide ∷ Advertise ∷ Obey (command.Start 3) ∷ [])
    ≡ Steps (alone (Obeys (command.Originate p))) ∷ calls.Idle ∷ Steps (alone Decides) ∷ calls.Idle ∷ calls.Idle ∷ Refuses error.NoSuchPeer ∷ [])
    × (answers 2 (fresh 2) (Obey (command.Originate p) ∷ []) ≡ Refuses error.NotOrigin ∷ [])

-- both start; router 1 dials; router 2 takes that, and is in OpenSent; router 1 takes router 2's dial, and says its OPEN
abbrev pub open_1 : List ℕ
open_1 = marker ++ 0 ∷ 29 ∷ 1 ∷ 4 ∷ 0 ∷ 1 ∷ 0 ∷ 90 ∷ 10 ∷ 0 ∷ 0 ∷ 1 ∷ 0 ∷ []

abbrev pub dialled_1 : Stamped
dialled_1 = after_calls 1 (fresh 1) (Obey (command.Start 2) ∷ Put 2 ∷ [])

abbrev pub joined_2 : Stamped
joined_2 = after_calls 2 (fresh 2) (Obey (command.Start 1) ∷ Take 1 2 (item.Dial 1) ∷ [])

abbrev pub joined_1 : Stamped
joined_1 = after_calls 1 dialled_1 (Take 2 4 (item.Dial 1) ∷ [])

abbrev pub item_next : Stamped → ℕ → Option What
item_next r v = next_item 4096 (r.router.sides v).outbox

abbrev pub StartsAndSaysOpen : Type 0
StartsAndSaysOpen =
    ((after_calls 1 (fresh 1) (Obey (command.Start 2) ∷ [])).stamp ≡ 1)
    × (item_next (after_calls 1 (fresh 1) (Obey (command.Start 2) ∷ [])) 2 ≡ Some (item.Dial 1))
    × (dialled_1.stamp ≡ 2) × (joined_2.stamp ≡ 3) × ((joined_2.router.sides 1).session.state ≡ OpenSent)
    × (item_next joined_1 2 ≡ Some (item.Piece 1 open_1))

-- ---- a hostile peer: router 1 after Start(2), and items from 2

abbrev pub started : Stamped
started = after_calls 1 (fresh 1) (Obey (command.Start 2) ∷ [])

abbrev pub from_2 : What → Call
from_2 i = Take 2 0 i

abbrev pub hears : List Call → Stamped
hears list = after_calls 1 started list

-- a faulty header is held until it is handled; its fault is told then, and the incarnation is shut
abbrev pub faulty : List ℕ
faulty = 254 ∷ replicate 18 255

abbrev pub unmarked_notice : List ℕ
unmarked_notice = marker ++ 0 ∷ 21 ∷ 3 ∷ 1 ∷ 1 ∷ []

abbrev pub two_puts : Stamped → Option What × Option What
two_puts r = (item_next r 2, item_next (after_calls 1 r (Put 2 ∷ [])) 2)

abbrev pub FaultyHeaderCloses : Type 0
FaultyHeaderCloses =
    (answers 1 started (from_2 (item.Dial 1) ∷ from_2 (item.Piece 1 faulty) ∷ from_2 (item.Dial 2) ∷ Handle 2 ∷ [])
    ≡ Steps (takes 2 (item.Dial 1)) ∷ Steps (takes 2 (item.Piece 1 faulty)) ∷ Refuses (error.Held 2) ∷ Steps (alone (Handles 2)) ∷ [])
    × (two_puts (hears (Put 2 ∷ from_2 (item.Dial 1) ∷ from_2 (item.Piece 1 faulty) ∷ Handle 2 ∷ []))
    ≡ (Some (item.Piece 1 (open_1 ++ unmarked_notice)), Some (item.Shut 1)))

-- octets of another incarnation, a marker before Established and an old dial change only what was taken
abbrev pub with_strays : Stamped
with_strays = hears (from_2 (item.Dial 1) ∷ from_2 (item.Piece 2 (marker ++ 0 ∷ 19 ∷ 4 ∷ [])) ∷ from_2 (item.Mark 1 5) ∷ from_2 (item.Dial 0) ∷ [])

abbrev pub without_strays : Stamped
without_strays = hears (from_2 (item.Dial 1) ∷ [])

abbrev pub StrayItemsAreDropped : Type 0
StrayItemsAreDropped =
    (with_strays.router.sides 2 ≡ without_strays.router.sides 2) × (with_strays.router.snapshots ≡ without_strays.router.snapshots)
    × (with_strays.stamp ≡ without_strays.stamp + 3) × ((without_strays.router.sides 2).session.state ≡ OpenSent)

-- the greatest incarnation is shut: the session waits in Active, and no dial is left as its timer expires
abbrev pub ticks : ℕ → List Call
ticks count = replicate count Tick

abbrev pub greatest_shut : Stamped
greatest_shut = hears (from_2 (item.Dial 4294967295) ∷ from_2 (item.Shut 4294967295) ∷ [])

abbrev pub NoIncarnationIsLeft : Type 0
NoIncarnationIsLeft =
    ((greatest_shut.router.sides 2).session.state ≡ Active)
    × (answer setting 1 (after_calls 1 greatest_shut (ticks 118)) Tick ≡ Steps (alone Ticks))
    × (answer setting 1 (after_calls 1 greatest_shut (ticks 119)) Tick ≡ Refuses error.EpochEnd)

-- the octets held of an incarnation are gone as it closes
abbrev pub open_2 : List ℕ
open_2 = marker ++ 0 ∷ 29 ∷ 1 ∷ 4 ∷ 0 ∷ 2 ∷ 0 ∷ 90 ∷ 10 ∷ 0 ∷ 0 ∷ 2 ∷ 0 ∷ []

abbrev pub second_incarnation : Stamped
second_incarnation =
    hears (from_2 (item.Dial 1) ∷ from_2 (item.Piece 1 (255 ∷ [])) ∷ from_2 (item.Shut 1) ∷ from_2 (item.Dial 2) ∷ from_2 (item.Piece 2 open_2) ∷ Handle 2 ∷ [])

abbrev pub OldOctetsAreGone : Type 0
OldOctetsAreGone =
    ((second_incarnation.router.sides 2).session.state ≡ OpenConfirm) × ((second_incarnation.router.sides 2).link.epoch ≡ 2)

-- no event has a stamp above the last
abbrev pub NoStampIsLeft : Type 0
NoStampIsLeft = answer setting 1 started (Take 2 4611686018427387904 (item.Dial 1)) ≡ Refuses error.StampEnd

-- an OPEN of another number than the peer's
abbrev pub open_3 : List ℕ
open_3 = marker ++ 0 ∷ 29 ∷ 1 ∷ 4 ∷ 0 ∷ 3 ∷ 0 ∷ 90 ∷ 10 ∷ 0 ∷ 0 ∷ 2 ∷ 0 ∷ []

abbrev pub after_open_3 : Stamped
after_open_3 = hears (Put 2 ∷ from_2 (item.Dial 1) ∷ Put 2 ∷ from_2 (item.Piece 1 open_3) ∷ Handle 2 ∷ [])

abbrev pub WrongNumberCloses : Type 0
WrongNumberCloses =
    (two_puts after_open_3 ≡ (Some (item.Piece 1 (marker ++ 0 ∷ 21 ∷ 3 ∷ 2 ∷ 2 ∷ [])), Some (item.Shut 1)))
    × ((after_open_3.router.sides 2).session.state ≡ Idle)

-- an UPDATE whose path does not begin with the peer is acted on nowhere
abbrev pub strange_update : List ℕ
strange_update =
    marker ++ 0 ∷ 44 ∷ 2 ∷ 0 ∷ 0 ∷ 0 ∷ 18 ∷ 64 ∷ 1 ∷ 1 ∷ 0 ∷ 64 ∷ 2 ∷ 4 ∷ 2 ∷ 1 ∷ 0 ∷ 1 ∷ 64 ∷ 3 ∷ 4 ∷ 10 ∷ 0 ∷ 0 ∷ 1 ∷ 16 ∷ 10 ∷ 1 ∷ []

abbrev pub established : Stamped
established =
    hears (Put 2 ∷ from_2 (item.Dial 1) ∷ from_2 (item.Piece 1 open_2) ∷ Handle 2 ∷ from_2 (item.Piece 1 (marker ++ 0 ∷ 19 ∷ 4 ∷ [])) ∷ Handle 2 ∷ Put 2 ∷ [])

abbrev pub after_strange : Stamped
after_strange = after_calls 1 established (from_2 (item.Piece 1 strange_update) ∷ Handle 2 ∷ [])

abbrev pub StrangePathCloses : Type 0
StrangePathCloses =
    ((established.router.sides 2).session.state ≡ Established)
    × (two_puts after_strange ≡ (Some (item.Piece 1 (marker ++ 0 ∷ 21 ∷ 3 ∷ 3 ∷ 11 ∷ [])), Some (item.Shut 1)))
    × ((after_strange.router.sides 2).session.state ≡ Idle) × ((after_strange.router.sides 2).acted 1 ≡ [])

-- ---- the order of judging at the last stamp: what bars a call, and that there is nothing to do, come before it

abbrev pub at_last_stamp : Stamped → Stamped
at_last_stamp r = record r { stamp = 4611686018427387904 }

-- router 1 originates the prefix, and keeps its path
abbrev pub decided : Stamped
decided = after_calls 1 (fresh 1) (Obey (command.Originate p) ∷ Decide ∷ [])

-- an item waits to be put, and a faulty header to be handled
abbrev pub waiting_fault : Stamped
waiting_fault = hears (from_2 (item.Dial 1) ∷ from_2 (item.Piece 1 faulty) ∷ [])

abbrev pub NothingBesideTheLastStamp : Type 0
NothingBesideTheLastStamp =
    (answer setting 1 (at_last_stamp (fresh 1)) (Obey (command.Originate p)) ≡ Refuses error.StampEnd)
    × (answer setting 1 (at_last_stamp decided) (Obey (command.Originate p)) ≡ calls.Idle)
    × (answer setting 1 (at_last_stamp decided) Decide ≡ calls.Idle)
    × (answer setting 1 (at_last_stamp decided) Advertise ≡ calls.Idle)
    × (answer setting 1 (at_last_stamp decided) (Put 2) ≡ calls.Idle)
    × (answer setting 1 (at_last_stamp decided) (Handle 2) ≡ calls.Idle)
    × (answer setting 1 (at_last_stamp decided) (Handle 3) ≡ Refuses error.NoSuchPeer)
    × (answer setting 1 (at_last_stamp started) (Put 2) ≡ Refuses error.StampEnd)
    × (answer setting 1 (at_last_stamp waiting_fault) (from_2 (item.Dial 2)) ≡ Refuses (error.Held 2))
    × (answer setting 1 (at_last_stamp waiting_fault) (Handle 2) ≡ Refuses error.StampEnd)

-- ---- what an Established session does with UPDATEs

-- an UPDATE told sets the KeepaliveTimer again, which runs out 30 seconds after it was set
abbrev pub told_late : Stamped
told_late = after_calls 1 established (Tick ∷ Obey (command.Originate p) ∷ Decide ∷ Advertise ∷ [])

abbrev pub keepalive_of : Stamped → ℕ
keepalive_of r = (r.router.sides 2).session.keepalive_timer

abbrev pub TellingSetsTheTimer : Type 0
TellingSetsTheTimer =
    (keepalive_of (after_calls 1 established (Tick ∷ [])) ≡ 29) × (keepalive_of told_late ≡ 30)
    × ((told_late.router.sides 2).session.hold_timer ≡ 89)

-- an UPDATE that announces 10.2.0.0/16 and withdraws it: the announcement wins; one that withdraws it alone takes it back
abbrev pub p2 : PrefixView
p2 = record { addr = 167903232; len = 16 }

abbrev pub both_ways : List ℕ
both_ways =
    marker ++ 0 ∷ 47 ∷ 2 ∷ 0 ∷ 3 ∷ 16 ∷ 10 ∷ 2 ∷ 0 ∷ 18 ∷ 64 ∷ 1 ∷ 1 ∷ 0 ∷ 64 ∷ 2 ∷ 4 ∷ 2 ∷ 1 ∷ 0 ∷ 2 ∷ 64 ∷ 3 ∷ 4 ∷ 10 ∷ 0 ∷ 0 ∷ 2 ∷ 16 ∷ 10 ∷ 2 ∷ []

abbrev pub one_way : List ℕ
one_way = marker ++ 0 ∷ 26 ∷ 2 ∷ 0 ∷ 3 ∷ 16 ∷ 10 ∷ 2 ∷ 0 ∷ 0 ∷ []

abbrev pub heard_both : Stamped
heard_both = after_calls 1 established (from_2 (item.Piece 1 both_ways) ∷ Handle 2 ∷ [])

abbrev pub heard_withdrawn : Stamped
heard_withdrawn = after_calls 1 heard_both (from_2 (item.Piece 1 one_way) ∷ Handle 2 ∷ [])

abbrev pub AnnouncementWins : Type 0
AnnouncementWins =
    (heard (heard_both.router.sides 2) p2 ≡ Sequence (2 ∷ []))
    × (heard (heard_withdrawn.router.sides 2) p2 ≡ Sequence [])
    × (length ((heard_withdrawn.router.sides 2).acted 1) ≡ 2)

-- ---- the limit of an outbox: router 1 waits to tell router 2, and so many octets wait to be put

abbrev pub up_side : ℕ → Side
up_side count = record (new_side setting) {
  session = record (new_side setting).session { state = Established };
  link = record { epoch = 1; heard = 1; heard_is_shut = false; phase = Joined };
  outbox = octets_of 1 (replicate count 0);
}

abbrev pub waiting_behind : ℕ → Stamped
waiting_behind count =
    record { router = record (new_router setting) { sides = λ v. up_side count; kept = λ q. 1 ∷ [] }; stamp = 9 }

abbrev pub TellsBelowTheLimit : Type 0
TellsBelowTheLimit =
    (answer setting 1 (waiting_behind 65535) Advertise ≡ Steps (alone (Advertises 2)))
    × (answer setting 1 (waiting_behind 65536) Advertise ≡ Refuses (error.Blocked 2))

-- ---- AS numbers of four octets: routers 1 and 70000, linked (RFC 6793)

abbrev pub wide : Plan
wide = record {
  settings = record { hold = 90; restart = 0; cut = 4096; pipe = 64; width = Four };
  routers = record { asn = 1; id = 167772161; rules = [] } ∷ record { asn = 70000; id = 167772162; rules = [] } ∷ [];
  links = record { one = 1; other = 70000 } ∷ [];
  origins = [];
}

-- AS_TRANS stands in the field AS, and the number in a capability
abbrev pub open_wide : List ℕ
open_wide = marker ++ 0 ∷ 37 ∷ 1 ∷ 4 ∷ 91 ∷ 160 ∷ 0 ∷ 90 ∷ 10 ∷ 0 ∷ 0 ∷ 2 ∷ 8 ∷ 2 ∷ 6 ∷ 65 ∷ 4 ∷ 0 ∷ 1 ∷ 17 ∷ 112 ∷ []

-- an OPEN without that capability, and the fault that router 1 tells: it has the capability that router 1 says itself
abbrev pub open_unsaid : List ℕ
open_unsaid = marker ++ 0 ∷ 29 ∷ 1 ∷ 4 ∷ 91 ∷ 160 ∷ 0 ∷ 90 ∷ 10 ∷ 0 ∷ 0 ∷ 2 ∷ 0 ∷ []

abbrev pub unsaid : Fault
unsaid = record { code = 2; sub = 7; extra = 65 ∷ 4 ∷ 0 ∷ 0 ∷ 0 ∷ 1 ∷ [] }

abbrev pub WideNumberIsSaid : Type 0
WideNumberIsSaid =
    (written Four (open_of wide 70000) ≡ open_wide)
    × (reading (rule_of wide 1 70000) open_wide ≡ Ok (open_of wide 70000))
    × (reading (rule_of wide 1 70000) open_unsaid ≡ Err unsaid)
