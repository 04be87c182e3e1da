-- A worker, and the chores that it was given.
use Rattle.std.specs.Prelude.{ℕ, ◌≡◌, ◌≢◌, ◌≤◌, ◌⊎◌, true, List, [], ◌∷◌, ◌++◌, length, slice_get, All, Some, Result, Ok, Err}
use Rattle.router_model.specs.declared.refusal.RouterError.{RouterError}
use Rattle.router_model.specs.declared.refusal.RouterError.TheVariants as error
use Rattle.router_model.specs.Step.{RouterEvent}
use Rattle.router_model.specs.Calls.{Call, IsEventOf}
use Rattle.world_core.specs.declared.schedule.Event.{Event}
use Rattle.world_core.specs.World.{name_of}
use Rattle.worker_loop.specs.declared.journal.WorkerEvent.{WorkerEvent}
use Rattle.worker_loop.specs.declared.worker.WorkerFault.{WorkerFault}
use Rattle.worker_loop.specs.declared.worker.WorkerFault.TheVariants as fault
use Rattle.outbox.specs.declared.item.Item.{Item}
use Rattle.run_model.specs.Stamps.{Collected}
use Rattle.snap_marker.specs.Recordings.{MadeOffer}
use Rattle.router_core.specs.Views.{RouterView, plain_of, link_is_idle}
use Rattle.worker_loop.specs.declared.chore.Chore.{Chore}
use Rattle.worker_loop.specs.declared.chore.Chore.TheVariants.{Stop}
use Rattle.worker_loop.specs.declared.worker.Worker.{Worker}
use Rattle.router_model.specs.Settings.{Setting, peers}
use Rattle.worker_loop.specs.Acts.{Seen}
use Rattle.worker_loop.specs.Following.{Stage, Did, Turns}

-- a worker as contracts see it, by what its lines and its desk show
abbrev pub seen_of : {L D G : Type 0} → (L → ℕ → List Item) → (L → ℕ → List Item) → (L → ℕ → ℕ) → (D → List (Collected MadeOffer)) → Worker L D G → Seen
seen_of put taken room made w = record {
  router = plain_of w.router;
  put = put w.lines;
  taken = taken w.lines;
  room = room w.lines;
  made = made w.desk;
  events = w.journal.events.items;
}

-- from the old state to the new one a worker did this, in each setting of its network
abbrev pub DidSo : {L D G : Type 0} → (L → ℕ → List Item) → (L → ℕ → List Item) → (L → ℕ → ℕ) → (D → List (Collected MadeOffer)) → Worker L D G → Worker L D G
    → (Setting → Stage) → Type 0
DidSo put taken room made old new P = Did P old.router.net (seen_of put taken room made old) (seen_of put taken room made new)

-- the peers of a worker's router, rising
abbrev pub peers_of : {L D G : Type 0} → Worker L D G → List ℕ
peers_of w = peers w.router.net w.router.number

-- the pipes of each peer stand at the place of that peer
abbrev pub PipesStand : {L D G W : Type 0} → (W → ℕ → ℕ → Type 0) → (L → W) → Worker L D G → Type 0
PipesStand stands wiring w = (place v : ℕ) → slice_get (peers_of w) place ≡ Some v → stands (wiring w.lines) place v

-- nothing is to be put towards a peer of a router, and nothing of it to be handled
abbrev pub IsQuiet : RouterView → ℕ → Type 0
IsQuiet x v = (cut : ℕ) → link_is_idle x v cut ≡ true

-- a Turn of a worker may do nothing
abbrev pub MayPass : {L D G : Type 0} → (L → ℕ → List Item) → (L → ℕ → List Item) → (L → ℕ → ℕ) → (D → List (Collected MadeOffer)) → Worker L D G → Type 0
MayPass put taken room made w = DidSo put taken room made w w (λ g. Turns g w.router.number (peers_of w))

-- so many chores, or the chores up to the first Stop
abbrev pub IsWhole : ℕ → List Chore → Type 0
IsWhole turns cs =
    (All (λ c. c ≢ Stop) cs × (length cs ≡ turns))
    ⊎ ((front : List Chore) × (cs ≡ front ++ Stop ∷ []) × All (λ c. c ≢ Stop) front × (length cs ≤ turns))

abbrev pub entry : ℕ → Event → WorkerEvent
entry stamp event = record { stamp = stamp; event = event }

-- the refusal of the router, as a worker sees it
abbrev pub passing : RouterError → Result (Unit {0}) WorkerFault
passing error.NoSuchPeer = Ok tt
passing error.NotOrigin = Ok tt
passing (error.OldSnapshot last) = Ok tt
passing (error.Blocked v) = Ok tt
passing (error.Held v) = Ok tt
passing error.StampEnd = Err fault.Refused
passing error.EpochEnd = Err fault.Refused
passing error.Memory = Err fault.Memory

-- the event of a call
abbrev pub IsNamedBy : Event → ℕ → Call → Type 0
IsNamedBy event u call = (e : RouterEvent) → IsEventOf call e → event ≡ name_of u e

-- two states of one worker: its network, its number and its pipes are the same
pub record IsLaterWorker {L D G W : Type 0} (wiring : L → W) (a b : Worker L D G) : Type 0 where
  pub net : b.router.net ≡ a.router.net
  pub number : b.router.number ≡ a.router.number
  pub lines : wiring b.lines ≡ wiring a.lines

-- two states of one worker, with the same gate and chores too
pub record IsSameWorker {L D G W : Type 0} (wiring : L → W) (a b : Worker L D G) : Type 0 where
  pub later : IsLaterWorker wiring a b
  pub gate : b.gate ≡ a.gate
  pub chores : b.journal.chores.items ≡ a.journal.chores.items

-- two states of one worker: all but its gate and chores are the same
pub record IsSameBut {L D G : Type 0} (a b : Worker L D G) : Type 0 where
  pub router : b.router ≡ a.router
  pub lines : b.lines ≡ a.lines
  pub desk : b.desk ≡ a.desk
  pub events : b.journal.events.items ≡ a.journal.events.items
