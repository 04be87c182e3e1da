-- A world of the code as a world of the definitions: its lists of routers and pipes as functions of numbers.
use Rattle.std.specs.Prelude.{ℕ, zero, suc, ◌+◌, ◌≡◌, ◌≢◌, ◌==◌, max, Bool, cond, List, [], ◌∷◌, ◌++◌, drop, map, take, slice_get, Option, None, Some, Result, Ok, Err, MatchResult, ◌⊎◌}
use Rattle.std.specs.List.{AllByRecursion}
use Rattle.run_model.specs.Network.{offered_by}
use Rattle.outbox.specs.declared.item.Item.{Item}
use Rattle.ranked_policy.specs.Plans.{Plan, IsNetwork, IsRouter, numbers}
use Rattle.router_model.specs.declared.refusal.RouterError.{RouterError}
use Rattle.router_model.specs.declared.refusal.RouterError.TheVariants as error
use Rattle.router_model.specs.declared.refusal.Stepped.{Stepped}
use Rattle.router_model.specs.declared.refusal.Stepped.TheVariants as stepped
use Rattle.router_model.specs.Settings.{Setting, IsSetting, ChoosesByRank, peers}
use Rattle.router_model.specs.State.{new_router}
use Rattle.router_model.specs.Step.{RouterEvent, next_offer}
use Rattle.router_model.specs.Calls.{Stamped, Call, Put, Take, Answer, Steps, Idle, Refuses, answer, stamped_after, offer_made}
use Rattle.router_core.specs.Views.{RouterView, plain_of}
use Rattle.snap_collector.specs.Collector.{CollectorView, AreMembers, made_for}
use Rattle.world_core.specs.declared.inbox.Pipe.{Pipe}
use Rattle.world_core.specs.declared.inbox.Inbox.{Inbox}
use Rattle.world_core.specs.declared.schedule.Event.{Event}
use Rattle.world_core.specs.declared.schedule.StepFault.{StepFault}
use Rattle.world_core.specs.declared.schedule.StepFault.TheVariants.{Refused, Memory}
use Rattle.world_core.specs.declared.schedule.PlayFault.{PlayFault}
use Rattle.world_core.specs.World as world
use Rattle.world_core.specs.World.{World, new_world, Played, WorldAnswer, Does, Nothing, Stops, of_offer, where_linked, piped, joined, IsStepped, IsReplayed}
use Rattle.world_core.specs.Orders.{IsObeyed, IsPlayed}
use Rattle.world_core.specs.Keeping.{KeepsItsPromises}

-- a world: its network, its routers by rising number, the pipes that lead to each of them, what was offered, the stamp of the last
-- offer, and the events that were done
pub record WorldView : Type 0 where
  pub net : Plan
  pub routers : List RouterView
  pub inboxes : List Inbox
  pub collector : CollectorView
  pub board : ℕ
  pub run : List Event

-- ---- lists as functions of numbers

-- what the first element of a number has, or `none` if no element bears it
abbrev pub at_number : {A B : Type 0} → (A → ℕ) → (A → B) → B → List A → ℕ → B
at_number number what none [] u = none
at_number number what none (x ∷ xs) u = cond (number x == u) (what x) (at_number number what none xs u)

-- the pipe from that peer
abbrev pub is_from : ℕ → Pipe → Bool
is_from v p = p.peer == v

-- the first element of that number stands at that place
abbrev pub IsAt : {A : Type 0} → (A → ℕ) → List A → ℕ → ℕ → Type 0
IsAt number [] u i = ⊥
IsAt number (x ∷ xs) u zero = number x ≡ u
IsAt number (x ∷ xs) u (suc i) = (number x ≢ u) × IsAt number xs u i

-- a setting of a network, in which nothing is chosen
abbrev pub setting_of : Plan → Setting
setting_of net = record { net = net; best = λ u q originated words. [] }

-- a router that did nothing
abbrev pub new_stamped : Plan → Stamped
new_stamped net = record { router = new_router (setting_of net); stamp = 0 }

abbrev pub routers_of : WorldView → ℕ → Stamped
routers_of x = at_number (λ r. r.number) plain_of (new_stamped x.net) x.routers

-- the pipes that lead to a router, and the items of the one from a peer
abbrev pub pipes_to : List Inbox → ℕ → List Pipe
pipes_to inboxes b = at_number (λ i. i.router) (λ i. i.pipes.items) [] inboxes b

abbrev pub items_from : List Pipe → ℕ → List Item
items_from pipes a = at_number (λ p. p.peer) (λ p. p.items.items) [] pipes a

abbrev pub pipes_of : List Inbox → ℕ → ℕ → List Item
pipes_of inboxes a b = items_from (pipes_to inboxes b) a

abbrev pub plain_world : WorldView → World
plain_world x = record {
  routers = routers_of x;
  pipes = pipes_of x.inboxes;
  made = made_for x.collector;
  board = x.board;
  run = x.run;
}

-- the router stands at that place of the network, and the peer at this one among its peers
abbrev pub ArePlaced : Plan → ℕ → ℕ → ℕ → ℕ → Type 0
ArePlaced net u v i k = (slice_get (numbers net.routers) i ≡ Some u) × (slice_get (peers net u) k ≡ Some v)

-- a pipe that leads to a router knows where its peer stands, and where the pipe the other way
abbrev pub KnowsBack : Plan → ℕ → Pipe → Type 0
KnowsBack net u p = ArePlaced net p.peer u p.router p.back

-- every router of the network is there once, and the pipes that lead to it from its peers
pub record IsWhole (x : WorldView) : Type 0 where
  pub network : IsNetwork x.net
  pub routers : map (λ r. r.number) x.routers ≡ numbers x.net.routers
  pub nets : AllByRecursion (λ r. r.net ≡ x.net) x.routers
  pub inboxes : map (λ i. i.router) x.inboxes ≡ numbers x.net.routers
  pub pipes : AllByRecursion (λ i. map (λ p. p.peer) i.pipes.items ≡ peers x.net i.router) x.inboxes
  pub backs : AllByRecursion (λ i. AllByRecursion (KnowsBack x.net i.router) i.pipes.items) x.inboxes
  pub members : AreMembers x.net x.collector.members

-- a router that did nothing
abbrev pub IsNewRouter : Plan → RouterView → Type 0
IsNewRouter net r = (r.net ≡ net) × (plain_of r ≡ new_stamped net)

-- a world in which nothing was done, in every setting of its network
abbrev pub Opens : Plan → WorldView → Type 0
Opens net x = (x.net ≡ net) × ((g : Setting) → g.net ≡ net → plain_world x ≡ new_world g)

-- the router of that number
pub record IsRouterOf (x : WorldView) (u : ℕ) (r : RouterView) : Type 0 where
  pub number : r.number ≡ u
  pub network : r.net ≡ x.net
  pub state : plain_of r ≡ routers_of x u

abbrev pub IsNoRouter : WorldView → ℕ → Type 0
IsNoRouter x u = IsRouter x.net.routers u → ⊥

-- the oldest item that a peer put towards a router and the router did not take
abbrev pub comes_next : WorldView → ℕ → ℕ → Option Item
comes_next x u v = slice_get (pipes_of x.inboxes v u) 0

-- no item is on its way, or a take is refused in every setting of the network, since no link joins the two
abbrev pub NothingComes : WorldView → ℕ → ℕ → Type 0
NothingComes x u v = (comes_next x u v ≡ None) ⊎ ((why : StepFault) × ((g : Setting) → g.net ≡ x.net → (a : WorldAnswer) → where_linked g u v a ≡ Stops why))

-- a world comes out of its own events again, in every setting of its network
abbrev pub ComesOut : WorldView → Type 0
ComesOut x = (g : Setting) → g.net ≡ x.net → ChoosesByRank g → IsReplayed g (plain_world x)

-- ---- the clauses of the calls, in every setting of the network that chooses by rank

abbrev pub Answers : Result Stepped StepFault → WorldView → Event → WorldView → Type 0
Answers r x event y = (g : Setting) → g.net ≡ x.net → ChoosesByRank g → IsStepped g r (plain_world x) event (plain_world y)

abbrev pub Obeys : Result (Unit {0}) StepFault → WorldView → List Event → WorldView → Type 0
Obeys r x events y = (g : Setting) → g.net ≡ x.net → ChoosesByRank g → IsObeyed g (plain_world x) events r (plain_world y)

-- the answer of a call, its world as the definitions have it
abbrev pub played_as : Result WorldView PlayFault → Played
played_as (Ok x) = Ok (plain_world x)
played_as (Err fault) = Err fault

abbrev pub Plays : Result WorldView PlayFault → Plan → List Event → Type 0
Plays r net events = (g : Setting) → g.net ≡ net → ChoosesByRank g → IsPlayed g events (played_as r)

abbrev pub KeepsPromises : WorldView → Type 0
KeepsPromises x = (g : Setting) → g.net ≡ x.net → IsSetting g → KeepsItsPromises g (plain_world x)

-- ---- a call of one router, whose event joins the run if it is done

-- the refusal of a router, as a world answers it
abbrev pub refusal : RouterError → Result Stepped StepFault
refusal error.NoSuchPeer = Err (Refused error.NoSuchPeer)
refusal error.NotOrigin = Err (Refused error.NotOrigin)
refusal (error.OldSnapshot last) = Err (Refused (error.OldSnapshot last))
refusal (error.Blocked v) = Ok stepped.Nothing
refusal (error.Held v) = Ok stepped.Nothing
refusal error.StampEnd = Err (Refused error.StampEnd)
refusal error.EpochEnd = Err (Refused error.EpochEnd)
refusal error.Memory = Err Memory

-- what a router answered to its call, as a world answers it
abbrev pub answered : Result Stepped RouterError → Result Stepped StepFault
answered (Ok s) = Ok s
answered (Err why) = refusal why

-- the run behind it: an event that is done joins it
abbrev pub logged : Result Stepped RouterError → Event → List Event → List Event
logged (Ok stepped.Did) event run = run ++ event ∷ []
logged (Ok stepped.Nothing) event run = run
logged (Err why) event run = run

-- a step is done, and `done` holds; or it wants memory, and `still` holds
abbrev pub DoneOr : Result Stepped StepFault → Type 0 → Type 0 → Type 0
DoneOr r done still = MatchResult r (λ s. (s ≡ stepped.Did) × done) (λ why. (why ≡ Memory) × still)

-- the answer of router u to a call: if it is a step, `done` holds once the step is done
abbrev pub Entered : Result Stepped StepFault → Answer → (RouterEvent → Type 0) → Type 0 → Type 0
Entered r (Steps e) done still = DoneOr r (done e) still
Entered r Idle done still = (r ≡ Ok stepped.Nothing) × still
Entered r (Refuses why) done still = (r ≡ refusal why) × still

-- an event that is done joins the run
abbrev pub Enters : Result Stepped StepFault → RouterView → List Event → Event → Call → RouterView → List Event → Type 0
Enters r x run event call y run_after =
    (g : Setting) → g.net ≡ x.net → ChoosesByRank g
    → Entered r (answer g x.number (plain_of x) call)
    (λ e. (plain_of y ≡ stamped_after g x.number (plain_of x) call e) × (run_after ≡ run ++ event ∷ []))
    ((plain_of y ≡ plain_of x) × (run_after ≡ run))

-- an event that is done joins the run, and the item that is put joins the pipe
abbrev pub EntersPut : Result Stepped StepFault → RouterView → List Event → List Item → Event → ℕ → RouterView → List Event → List Item → Type 0
EntersPut r x run items event v y run_after items_after =
    (g : Setting) → g.net ≡ x.net → ChoosesByRank g
    → Entered r (answer g x.number (plain_of x) (Put v))
    (λ e. (plain_of y ≡ stamped_after g x.number (plain_of x) (Put v) e) × (run_after ≡ run ++ event ∷ [])
    × (items_after ≡ piped x.number (x.stamp + 1) e x.number v items))
    ((plain_of y ≡ plain_of x) × (run_after ≡ run) × (items_after ≡ items))

-- the item that is taken leaves the pipe
abbrev pub TakesFrom : Result Stepped StepFault → RouterView → List Event → List Item → Event → ℕ → RouterView → List Event → List Item → Option Item → Type 0
TakesFrom r x run items event v y run_after items_after None =
    (r ≡ Ok stepped.Nothing) × (plain_of y ≡ plain_of x) × (run_after ≡ run) × (items_after ≡ items)
TakesFrom r x run items event v y run_after items_after (Some i) =
    (g : Setting) → g.net ≡ x.net → ChoosesByRank g
    → Entered r (answer g x.number (plain_of x) (Take v i.stamp i.what))
    (λ e. (plain_of y ≡ stamped_after g x.number (plain_of x) (Take v i.stamp i.what) e) × (run_after ≡ run ++ event ∷ [])
    × (items_after ≡ drop 1 items))
    ((plain_of y ≡ plain_of x) × (run_after ≡ run) × (items_after ≡ items))

abbrev pub EntersTake : Result Stepped StepFault → RouterView → List Event → List Item → Event → ℕ → RouterView → List Event → List Item → Type 0
EntersTake r x run items event v y run_after items_after = TakesFrom r x run items event v y run_after items_after (slice_get items 0)

-- the collector keeps an offer that is made
abbrev pub OffersTo : Result Stepped StepFault → RouterView → List Event → CollectorView → ℕ → Event → RouterView → List Event → CollectorView → ℕ → WorldAnswer → Type 0
OffersTo r x run kept board event y run_after kept_after board_now (Does u e stamp) =
    DoneOr r
    ((plain_of y ≡ offer_made (plain_of x) stamp) × (run_after ≡ run ++ event ∷ [])
    × (made_for kept_after ≡ joined (made_for kept) (offered_by e)) × (board_now ≡ stamp))
    ((plain_of y ≡ plain_of x) × (run_after ≡ run) × (made_for kept_after ≡ made_for kept) × (board_now ≡ board))
OffersTo r x run kept board event y run_after kept_after board_now Nothing =
    (r ≡ Ok stepped.Nothing) × (plain_of y ≡ plain_of x) × (run_after ≡ run) × (made_for kept_after ≡ made_for kept) × (board_now ≡ board)
OffersTo r x run kept board event y run_after kept_after board_now (Stops fault) =
    (r ≡ Err fault) × (plain_of y ≡ plain_of x) × (run_after ≡ run) × (made_for kept_after ≡ made_for kept) × (board_now ≡ board)

abbrev pub EntersOffer : Result Stepped StepFault → RouterView → List Event → CollectorView → ℕ → Event → RouterView → List Event → CollectorView → ℕ → Type 0
EntersOffer r x run kept board event y run_after kept_after board_now =
    OffersTo r x run kept board event y run_after kept_after board_now
    (of_offer x.number (max x.stamp board + 1) (next_offer (plain_of x).router))

-- the first events of a schedule were played
pub record Reaches (plan : Plan) (events : List Event) (i : ℕ) (x : WorldView) : Type 0 where
  pub net : x.net ≡ plan
  pub promises : KeepsPromises x
  pub played : (g : Setting) → g.net ≡ plan → ChoosesByRank g → world.played g (new_world g) 0 (take i events) ≡ Ok (plain_world x)
