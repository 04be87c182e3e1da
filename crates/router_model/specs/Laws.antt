-- Laws of the definitions of one router.
-- g is a setting, x y a router before and behind, r one with its stamp, u v w routers' numbers, e an event, i an item,
-- k a snapshot's number, n an incarnation.
use Rattle.std.specs.Prelude.{ℕ, ◌≡◌, ◌≢◌, ◌<◌, max, nat_eq, true, false, ◌++◌, List, [], ◌∷◌}
use Rattle.std.specs.List.{list_any}
use Rattle.bgp_codec.specs.declared.message.Message.{Message}
use Rattle.bgp_codec.specs.Spelling.{written}
use Rattle.run_model.specs.Links.{said}
use Rattle.run_model.specs.Octets.{Passing, passing}
use Rattle.run_model.specs.Network.{alone, puts, takes, put_towards}
use Rattle.run_model.specs.Exchange.{PutsCommute}
use Rattle.bgp_framing.specs.Held.{is_waiting}
use Rattle.ranked_policy.specs.Plans.{Plan, IsNetwork, IsRouter}
use Rattle.outbox.specs.declared.item.What.{What}
use Rattle.outbox.specs.declared.item.What.TheVariants as item
use Rattle.router_model.specs.Settings.{Setting, linked, peers}
use Rattle.router_model.specs.State.{Router}
use Rattle.router_model.specs.Messages.{updates_in}
use Rattle.outbox.specs.Items.{passes}
use Rattle.router_model.specs.Sides.{fits}
use Rattle.router_model.specs.Step.{RouterEvent, Handles, May, Step, after, says}
use Rattle.router_model.specs.Calls.{Stamped, Call, Take, Handle, Steps, Idle, answer, IsEventOf}
use Rattle.run_model.specs.declared.stamps.TheConstants.{GREATEST_STAMP}

-- the octets and entries of items
abbrev pub all_passes : List What → List (Passing Message)
all_passes [] = []
all_passes (i ∷ is) = passes i ++ all_passes is

-- two routers that a link joins
pub record AreLinked (net : Plan) (u v : ℕ) : Type 0 where
  pub apart : u ≢ v
  pub back : linked net v u ≡ true
  pub one : IsRouter net.routers u
  pub other : IsRouter net.routers v
  pub peer : list_any (nat_eq v) (peers net u) ≡ true

-- a link joins two routers of the network, whichever it names first, and each is among the peers of the other
abbrev pub LinkedRoutersArePeers : Type 0
LinkedRoutersArePeers = (net : Plan) → IsNetwork net → (u v : ℕ) → linked net u v ≡ true → AreLinked net u v

-- what a step says towards a peer is appended; what it puts stood in front, and is gone; nothing else changes there
abbrev pub StepsAppendWhatTheySay : Type 0
StepsAppendWhatTheySay =
    (g : Setting) (u v : ℕ) (x y : Router) (e : RouterEvent) → Step g u x e y
    → all_passes (put_towards v e) ++ (y.sides v).outbox ≡ (x.sides v).outbox ++ passing (written (x.sides v).width) (says g u x e v)

-- if a call answers a step, it is a step of an event that the call can be
abbrev pub AnswersAreSteps : Type 0
AnswersAreSteps =
    (g : Setting) → IsNetwork g.net → (u : ℕ) (r : Stamped) (call : Call) (e : RouterEvent)
    → answer g u r call ≡ Steps e → IsEventOf call e × Step g u r.router e (after g u r.router e)

-- a call is idle only if none of the events that it can be may come
abbrev pub IdleWhereNothingMayCome : Type 0
IdleWhereNothingMayCome =
    (g : Setting) → IsNetwork g.net → (u : ℕ) (r : Stamped) (call : Call)
    → answer g u r call ≡ Idle → (e : RouterEvent) → IsEventOf call e → May g u r.router e → ⊥

-- the history of UPDATEs sent, incarnation by incarnation, is that of the UPDATEs said: only an Advertise says one, and
-- it joins the history
abbrev pub SentIsWhatIsSaid : Type 0
SentIsWhatIsSaid =
    (g : Setting) (u v n : ℕ) (x y : Router) (e : RouterEvent) → Step g u x e y
    → (y.sides v).sent n ≡ (x.sides v).sent n ++ updates_in (said n (says g u x e v))

-- the numbers of an item have 32 bits, as its type in the code says
abbrev pub HasNumbers : What → Type 0
HasNumbers (item.Dial n) = fits n ≡ true
HasNumbers (item.Piece n octets) = Unit {0}
HasNumbers (item.Mark n k) = Unit {0}
HasNumbers (item.Shut n) = Unit {0}

-- whatever a peer hands in is taken, if no message of the peer waits to be handled and a stamp is left
abbrev pub AnyItemIsTaken : Type 0
AnyItemIsTaken =
    (g : Setting) (u v stamp : ℕ) (r : Stamped) (i : What) → linked g.net u v ≡ true → HasNumbers i
    → is_waiting (r.router.sides v).held ≡ false → max r.stamp stamp < GREATEST_STAMP
    → answer g u r (Take v stamp i) ≡ Steps (takes v i)

-- a message or a fault that waits is handled
abbrev pub WhatWaitsIsHandled : Type 0
WhatWaitsIsHandled =
    (g : Setting) (u v : ℕ) (r : Stamped) → linked g.net u v ≡ true → is_waiting (r.router.sides v).held ≡ true → r.stamp < GREATEST_STAMP
    → answer g u r (Handle v) ≡ Steps (alone (Handles v))

-- a put may change places with each event that puts nothing in its direction: runs pass through their cuts
abbrev pub RouterPutsCommute : Type 0
RouterPutsCommute = (g : Setting) → PutsCommute (Step g)

-- what an event says is the same before a put and behind it
abbrev pub PutsLeaveWhatIsSaid : Type 0
PutsLeaveWhatIsSaid =
    (g : Setting) (u v : ℕ) (i : What) (x y : Router) → Step g u x (puts v i) y → (e : RouterEvent) (w : ℕ) → says g u y e w ≡ says g u x e w
