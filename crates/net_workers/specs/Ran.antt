-- The work of each worker from its first chore to its last.
use Rattle.std.specs.Prelude.{ℕ, ◌≡◌, ◌≤◌, ◌<◌, ◌==◌, true, cond, List, [], ◌∷◌, length, map, filter, Option, None, Some}
use Rattle.std.specs.List.{AllByRecursion}
use Rattle.ranked_policy.specs.Plans.{IsRouter, numbers}
use Rattle.snap_marker.specs.Recordings.{MadeOffer}
use Rattle.snap_collector.specs.Collector.{CollectorView, AreMembers, made_for, with_offers}
use Rattle.run_model.specs.Stamps.{Collected, Pairwise, offers_on}
use Rattle.worker_loop.specs.declared.worker.WorkerFault.TheVariants as worker
use Rattle.worker_loop.specs.declared.journal.WorkerEvent.{WorkerEvent}
use Rattle.net_workers.specs.declared.record.RunFault.{RunFault}
use Rattle.net_workers.specs.declared.record.RunFault.TheVariants as fault
use Rattle.net_workers.specs.declared.record.TheConstants.{MOST_TURNS}
use Rattle.net_workers.specs.Gathered.{all_events, IsSorted}
use Rattle.ranked_policy.specs.Plans.{Plan}
use Rattle.router_model.specs.Settings.{Setting, IsSetting, linked, peers}
use Rattle.router_core.specs.Views.{plain_of}
use Rattle.outbox.specs.declared.item.Item.{Item}
use Rattle.run_model.specs.Stamps.{stamped_offers}
use Rattle.world_core.specs.Views.{new_stamped}
use Rattle.worker_loop.specs.declared.chore.Chore.{Chore}
use Rattle.worker_loop.specs.declared.worker.Worker.{Worker}
use Rattle.worker_loop.specs.declared.worker.WorkerFault.{WorkerFault}
use Rattle.worker_loop.specs.Acts.{Act, Seen, Does, entry_of}
use Rattle.worker_loop.specs.Following.{Did, Follows}
use Rattle.worker_loop.specs.Ending.{EndsFor}
use Rattle.worker_loop.specs.Whole.{IsWhole, IsLaterWorker, PipesStand, peers_of, seen_of}
use Rattle.offer_board.specs.declared.board.Made.{Made}
use Rattle.offer_board.specs.Boards.{collected_in}
use Rattle.net_workers.specs.declared.worker_pipes.WorkerPipes.{WorkerPipes}
use Rattle.net_workers.specs.declared.board_seat.BoardSeat.{BoardSeat}
use Rattle.net_workers.specs.declared.record.Worked.{Worked}
use Rattle.net_workers.specs.declared.running.Finished.{Finished}
use Rattle.net_workers.specs.Lanes.{put_of, taken_of, room_of, wiring_of, stands_at, AreNew}

abbrev pub seen : {G : Type 0} → Worker WorkerPipes BoardSeat G → Seen
seen w = seen_of (λ e. put_of e.pairs.items) (λ e. taken_of e.pairs.items) (λ e. room_of e.pairs.items)
    (λ d. collected_in d.made.items) w

-- a worker that did nothing yet
pub record IsFresh {G : Type 0} (given : G → List Chore) (plan : Plan)
    (w : Worker WorkerPipes BoardSeat G) : Type 0 where
  pub net : w.router.net ≡ plan
  pub router : plain_of w.router ≡ new_stamped plan
  pub pairs : AreNew w.lines
  pub pipes : PipesStand stands_at wiring_of w
  pub made : w.desk.made.items ≡ []
  pub chores : w.journal.chores.items ≡ []
  pub events : w.journal.events.items ≡ []
  pub gate : given w.gate ≡ []

-- from v to w a worker did what its gate said, and no more
pub record Ran {G : Type 0} (given : G → List Chore) (turns : ℕ) (v w : Worker WorkerPipes BoardSeat G) : Type 0 where
  pub chores : w.journal.chores.items ≡ given w.gate
  pub whole : IsWhole turns (given w.gate)
  pub follows : Did (λ g. Follows g v.router.number (peers_of v) (given w.gate)) v.router.net (seen v) (seen w)
  pub same : IsLaterWorker wiring_of v w

-- the items that each router put towards each other router, and that it took from it
pub record Passed : Type 0 where
  pub put : ℕ → ℕ → List Item
  pub taken : ℕ → ℕ → List Item

-- the journal of a router from its opening on. At first nothing had passed its pipes, which hold as many items as the
-- network says. Its events are exactly those that follow from its chores, and lead it to where it is; its offers are
-- theirs
pub record IsTold {G : Type 0} (given : G → List Chore) (g : Setting) (p : Passed) (w : Worked G) : Type 0 where
  pub first : Seen
  pub last : Seen
  pub acts : List Act
  pub follows : Follows g w.router.number (peers g.net w.router.number) (given w.gate) first acts last
  pub opening : first.router ≡ new_stamped g.net
  pub nothing_put : first.put ≡ (λ v. [])
  pub nothing_taken : first.taken ≡ (λ v. [])
  pub room : (v : ℕ) → linked g.net w.router.number v ≡ true → first.room v ≡ g.net.settings.pipe
  pub router : last.router ≡ plain_of w.router
  pub put : last.put ≡ p.put w.router.number
  pub taken : last.taken ≡ p.taken w.router.number
  pub done : Does g w.router.number first acts last
  pub events : map entry_of acts ≡ w.journal.events.items
  pub offers : stamped_offers acts ≡ collected_in w.journal.offers.items

-- the work of a router: the chores are those that its gate gave, so many or up to the first Stop, and its journal
-- follows them
pub record HasWorked {G : Type 0} (given : G → List Chore) (plan : Plan) (turns : ℕ) (p : Passed) (w : Worked G) : Type 0 where
  pub net : w.router.net ≡ plan
  pub chores : w.journal.chores.items ≡ given w.gate
  pub whole : IsWhole turns (given w.gate)
  pub told : (g : Setting) → g.net ≡ plan → IsSetting g → IsTold given g p w

-- ---- how long a network runs

-- the limits of a run: from 1 to the most chores, and a gate for each router
pub record AreLimits (plan : Plan) (turns gates : ℕ) : Type 0 where
  pub some : 0 < turns
  pub few : turns ≤ MOST_TURNS
  pub all : gates ≡ length plan.routers

-- ---- the record of a run

-- what a record hands back of a worker
abbrev pub worked_of : {G : Type 0} → Finished G → Worked G
worked_of e = record {
  router = e.worker.router;
  journal = record { chores = e.worker.journal.chores; events = e.worker.journal.events; offers = e.worker.desk.made };
  gate = e.worker.gate;
}

-- the ends of pipes that a worker held
abbrev pub lines_of : {G : Type 0} → Finished G → WorkerPipes
lines_of e = e.worker.lines

-- why a worker that ended in the middle leaves no record
abbrev pub fault_of : ℕ → Option WorkerFault → Option RunFault
fault_of u None = None
fault_of u (Some worker.Memory) = Some fault.Memory
fault_of u (Some worker.Refused) = Some (fault.WorkerRefused u)

abbrev pub or_else : Option RunFault → Option RunFault → Option RunFault
or_else None other = other
or_else (Some why) other = Some why

-- the fault of the first that has one
abbrev pub first_fault : {G : Type 0} → List (Finished G) → Option RunFault
first_fault [] = None
first_fault (e ∷ es) = or_else (fault_of e.worker.router.number e.fault) (first_fault es)

-- why a worker ended before its last chore
abbrev pub Ceased : {G : Type 0} → (G → List Chore) → ℕ → Worker WorkerPipes BoardSeat G → WorkerFault → Type 0
Ceased given turns w why = EndsFor (λ e. taken_of e.pairs.items) turns (given w.gate) w why

-- the offers of a list that a router made are those of its journal
abbrev pub OffersOf : {G : Type 0} → List Made → Finished G → Type 0
OffersOf board e = filter (λ o. o.router == e.worker.router.number) (collected_in board) ≡ collected_in e.worker.desk.made.items

-- the collector has all offers made, by their numbers; router by router they are those of the journals, at rising
-- stamps
pub record Collects {G : Type 0} (plan : Plan) (workers : List (Worked G)) (c : CollectorView) : Type 0 where
  pub offers : List (Collected MadeOffer)
  pub rising : Pairwise (λ a b. a.stamp < b.stamp) offers
  pub of : AllByRecursion (λ w. filter (λ o. o.router == w.router.number) offers ≡ collected_in w.journal.offers.items) workers
  pub only : (u : ℕ) → (IsRouter plan.routers u → ⊥) → filter (λ o. o.router == u) offers ≡ []
  pub made : made_for c ≡ with_offers (λ s. []) (offers_on offers)

-- every router of the network worked, and the events are gathered
pub record IsRecord {G : Type 0} (given : G → List Chore) (plan : Plan) (turns : ℕ) (p : Passed) (workers : List
    (Worked G)) (c : CollectorView) (gathered : List WorkerEvent) : Type 0 where
  pub routers : map (λ w. w.router.number) workers ≡ numbers plan.routers
  pub nobody : (u v : ℕ) → (IsRouter plan.routers u → ⊥) → (p.put u v ≡ []) × (p.taken u v ≡ [])
  pub worked : AllByRecursion (HasWorked given plan turns p) workers
  pub sorted : IsSorted (all_events workers) gathered
  pub collects : Collects plan workers c
  pub members : AreMembers plan c.members

-- every router of the network worked: with their events, gathered, that is a record
abbrev pub AreRecord : {G : Type 0} → (G → List Chore) → Plan → ℕ → Passed → List (Worked G) → CollectorView → Type 0
AreRecord given plan turns p workers c = (gathered : List WorkerEvent) → IsSorted (all_events workers) gathered → IsRecord given plan turns p workers c gathered

-- what the pairs of the workers have at the end
abbrev pub put_by : {G : Type 0} → List (Finished G) → ℕ → ℕ → List Item
put_by [] u v = []
put_by (e ∷ es) u v = cond (e.worker.router.number == u) (put_of e.worker.lines.pairs.items v) (put_by es u v)

abbrev pub taken_by : {G : Type 0} → List (Finished G) → ℕ → ℕ → List Item
taken_by [] u v = []
taken_by (e ∷ es) u v = cond (e.worker.router.number == u) (taken_of e.worker.lines.pairs.items v) (taken_by es u v)

abbrev pub passed_by : {G : Type 0} → List (Finished G) → Passed
passed_by es = record { put = put_by es; taken = taken_by es }
