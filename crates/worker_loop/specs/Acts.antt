-- What a worker did, event by event: each with its stamp, and with the item that it put or took.
use Rattle.std.specs.Prelude.{ℕ, ◌≡◌, ◌<◌, ◌==◌, cond, List, [], ◌∷◌, ◌++◌, map}
use Rattle.outbox.specs.declared.item.Item.{Item}
use Rattle.outbox.specs.declared.item.What.{What}
use Rattle.run_model.specs.Network.{Event, Journal, alone, puts, takes, offers}
use Rattle.run_model.specs.Journals.{puts_towards, takes_from}
use Rattle.run_model.specs.Stamps as stamps
use Rattle.run_model.specs.Stamps.{StampedItem, Collected, FitsItem, without_stamp, stamped_offers}
use Rattle.snap_marker.specs.Recordings.{MadeOffer}
use Rattle.router_model.specs.Settings.{Setting}
use Rattle.router_model.specs.Step.{Own, RouterEvent, Step}
use Rattle.router_model.specs.Calls.{Stamped}
use Rattle.world_core.specs.World.{name_of}
use Rattle.worker_loop.specs.declared.journal.WorkerEvent.{WorkerEvent}

-- an event of a router with its stamp; an item that it puts or takes has one too
abbrev pub Act : Type 0
Act = stamps.Stamped Own What MadeOffer

-- an item, as it passes a line
abbrev pub passed : Item → StampedItem What
passed i = record { stamp = i.stamp; item = i.what }

-- an event; its item, if it has one, has this stamp
abbrev pub with_stamp : ℕ → RouterEvent → Event Own (StampedItem What) MadeOffer
with_stamp s (alone e) = alone e
with_stamp s (puts v i) = puts v (record { stamp = s; item = i })
with_stamp s (takes v i) = takes v (record { stamp = s; item = i })
with_stamp s (offers o) = offers o

abbrev pub act_of : (router stamp item_stamp : ℕ) → RouterEvent → Act
act_of u stamp s e = record { stamp = stamp; event = record { router = u; event = with_stamp s e } }

-- the events alone
abbrev pub journal_of : List Act → Journal Own (StampedItem What) MadeOffer
journal_of acts = map (λ a. a.event.event) acts

-- an event as a journal names it
abbrev pub entry_of : Act → WorkerEvent
entry_of a = record { stamp = a.stamp; event = name_of a.event.router (without_stamp a.event.event) }

-- an event of router u leads from one of its states to another, at a later stamp
pub record Moves (g : Setting) (u : ℕ) (x : Stamped) (a : Act) (y : Stamped) : Type 0 where
  pub router : a.event.router ≡ u
  pub stamp : a.stamp ≡ y.stamp
  pub later : x.stamp < y.stamp
  pub fits : FitsItem a.stamp a.event.event
  pub step : Step g u x.router (without_stamp a.event.event) y.router

-- several events lead a router from one of its states to another, one after another
abbrev pub Leads : Setting → ℕ → Stamped → List Act → Stamped → Type 0
Leads g u x [] z = x ≡ z
Leads g u x (a ∷ acts) z = (y : Stamped) × Moves g u x a y × Leads g u y acts z

-- a worker as contracts see it: its router, what it put towards each peer and took from it, the most items that each
-- line holds, the offers that it made, and the events of its journal
pub record Seen : Type 0 where
  pub router : Stamped
  pub put : ℕ → List Item
  pub taken : ℕ → List Item
  pub room : ℕ → ℕ
  pub made : List (Collected MadeOffer)
  pub events : List WorkerEvent

-- between a and b just these events of router u were done, and written down
pub record Does (g : Setting) (u : ℕ) (a : Seen) (acts : List Act) (b : Seen) : Type 0 where
  pub leads : Leads g u a.router acts b.router
  pub put : (v : ℕ) → map passed (b.put v) ≡ map passed (a.put v) ++ puts_towards v (journal_of acts)
  pub taken : (v : ℕ) → map passed (b.taken v) ≡ map passed (a.taken v) ++ takes_from v (journal_of acts)
  pub room : b.room ≡ a.room
  pub made : b.made ≡ a.made ++ stamped_offers acts
  pub events : b.events ≡ a.events ++ map entry_of acts

-- ---- how lines and desks change

-- the list at v has one more item
abbrev pub grown : (ℕ → List Item) → ℕ → Item → ℕ → List Item
grown old v x w = cond (v == w) (old w ++ x ∷ []) (old w)

-- the offers made, with one more
abbrev pub with_offer : List (Collected MadeOffer) → ℕ → MadeOffer → List (Collected MadeOffer)
with_offer made stamp o = made ++ record { stamp = stamp; router = o.router; offer = o } ∷ []
