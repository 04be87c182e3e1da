-- Why a worker ended before its last chore, by its state at the end: the call that ended it left its router as it was.
use Rattle.std.specs.Prelude.{ℕ, ◌≡◌, ◌≤◌, ◌<◌, ◌⊎◌, List, [], ◌∷◌, ◌++◌, length, vec_capacity, Option, None, Some}
use Rattle.std.specs.List.{Contains}
use Rattle.std.specs.Result.{result_err}
use Rattle.outbox.specs.declared.item.Item.{Item}
use Rattle.snap_marker.specs.declared.part.Offer.{Offer}
use Rattle.router_model.specs.declared.refusal.RouterError.{RouterError}
use Rattle.router_model.specs.declared.refusal.RouterError.TheVariants as error
use Rattle.router_model.specs.Settings.{Setting, IsSetting}
use Rattle.router_model.specs.Calls as calls
use Rattle.router_model.specs.Calls.{Call, Put, Take, Handle, Answer, Steps, Idle, Refuses, answer}
use Rattle.router_core.specs.Views.{plain_of, IsOffered}
use Rattle.worker_loop.specs.declared.chore.Chore.{Chore}
use Rattle.worker_loop.specs.declared.chore.Chore.TheVariants as chore
use Rattle.worker_loop.specs.declared.worker.WorkerFault.{WorkerFault}
use Rattle.worker_loop.specs.declared.worker.WorkerFault.TheVariants as fault
use Rattle.worker_loop.specs.declared.worker.Worker.{Worker}
use Rattle.worker_loop.specs.Whole.{passing, peers_of}

-- how a call can end a worker, by what its router has to answer: a step by want of memory, a refusal that is not passed
-- over by itself, and nothing else
abbrev pub ending : Answer → Option WorkerFault
ending (Steps e) = Some fault.Memory
ending Idle = None
ending (Refuses why) = result_err (passing why)

-- why a worker ends if its router refused an item that was taken off its line
abbrev pub lost : RouterError → WorkerFault
lost error.Memory = fault.Memory
lost error.NoSuchPeer = fault.Refused
lost error.NotOrigin = fault.Refused
lost (error.OldSnapshot last) = fault.Refused
lost (error.Blocked v) = fault.Refused
lost (error.Held v) = fault.Refused
lost error.StampEnd = fault.Refused
lost error.EpochEnd = fault.Refused

module _ {L D G : Type 0} where
  -- memory was wanting to write down the next chore: some are left, and the list of those given has no room for one
  -- more
  pub record EndsBetween (turns : ℕ) (given : List Chore) (w : Worker L D G) (why : WorkerFault) : Type 0 where
    pub memory : why ≡ fault.Memory
    pub left : length given < turns
    pub full : vec_capacity w.journal.chores ≤ length given

  -- a call of its router ends the worker, in every setting of the network
  abbrev pub EndsCall : Worker L D G → Call → WorkerFault → Type 0
  EndsCall w call why = (g : Setting) → g.net ≡ w.router.net → IsSetting g → ending (answer g w.router.number (plain_of w.router) call) ≡ Some why

  -- the item that the worker took last from a peer ends it
  pub record EndsTake (taken_from : L → ℕ → List Item) (w : Worker L D G) (v : ℕ) (why : WorkerFault) : Type 0 where
    pub item : Item
    pub before : List Item
    pub taken : taken_from w.lines v ≡ before ++ item ∷ []
    pub ends : EndsCall w (Take v item.stamp item.what) why

  -- an offer waits in front, which the board refused, or for which memory was wanting
  abbrev pub EndsOffer : Worker L D G → Type 0
  EndsOffer w = (offer : Offer) × IsOffered w.router offer

  -- something that is tried with a peer ends the worker
  abbrev pub EndsMeet : (L → ℕ → List Item) → Worker L D G → ℕ → WorkerFault → Type 0
  EndsMeet taken_from w v why = EndsCall w (Put v) why ⊎ (EndsTake taken_from w v why ⊎ EndsCall w (Handle v) why)

  -- something that is tried with some peer ends the worker
  pub record EndsMeeting (taken_from : L → ℕ → List Item) (w : Worker L D G) (why : WorkerFault) : Type 0 where
    pub peer : ℕ
    pub is_peer : Contains (peers_of w) peer
    pub ends : EndsMeet taken_from w peer why

  -- something that is tried in a turn ends the worker
  abbrev pub EndsTurn : (L → ℕ → List Item) → Worker L D G → WorkerFault → Type 0
  EndsTurn taken_from w why =
      EndsMeeting taken_from w why ⊎ (EndsCall w calls.Decide why ⊎ (EndsCall w calls.Advertise why ⊎ EndsOffer w))

  abbrev pub EndsChore : (L → ℕ → List Item) → Worker L D G → Chore → WorkerFault → Type 0
  EndsChore taken_from w chore.Turn why = EndsTurn taken_from w why
  EndsChore taken_from w chore.Tick why = EndsCall w calls.Tick why
  EndsChore taken_from w (chore.Command c) why = EndsCall w (calls.Obey c) why
  EndsChore taken_from w chore.Stop why = ⊥

  -- the attempt that ended the worker belongs to the last chore given
  pub record EndsLast (taken_from : L → ℕ → List Item) (given : List Chore) (w : Worker L D G) (why : WorkerFault) : Type 0 where
    pub before : List Chore
    pub chore : Chore
    pub last : given ≡ before ++ chore ∷ []
    pub ends : EndsChore taken_from w chore why

  -- why a worker ended; it was given these of so many chores, and wrote all of them down
  pub record EndsFor (taken_from : L → ℕ → List Item) (turns : ℕ) (given : List Chore) (w : Worker L D G) (why : WorkerFault) : Type 0 where
    pub chores : w.journal.chores.items ≡ given
    pub few : length given ≤ turns
    pub ends : EndsBetween turns given w why ⊎ EndsLast taken_from given w why
