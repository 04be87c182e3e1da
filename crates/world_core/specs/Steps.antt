-- What the parts of a step start from and leave.
use Rattle.std.specs.Prelude.{ℕ, ◌≡◌, true, false, get_or, slice_get, Some, IfSome, Result, Ok, MatchResult}
use Rattle.ranked_policy.specs.Plans.{Plan, numbers}
use Rattle.router_model.specs.declared.refusal.Stepped.{Stepped}
use Rattle.router_model.specs.declared.refusal.Stepped.TheVariants as stepped
use Rattle.router_model.specs.Settings.{Setting, ChoosesByRank, is_router, peers}
use Rattle.router_model.specs.Calls.{Call, Put, Take}
use Rattle.world_core.specs.declared.inbox.Inbox.{Inbox}
use Rattle.world_core.specs.declared.schedule.Event.{Event}
use Rattle.world_core.specs.declared.schedule.Event.TheVariants as schedule
use Rattle.world_core.specs.declared.schedule.StepFault.{StepFault}
use Rattle.world_core.specs.declared.schedule.StepFault.TheVariants.{NoSuchRouter}
use Rattle.world_core.specs.declared.state.State.{State}
use Rattle.world_core.specs.Events.{router_of, peer_of}
use Rattle.world_core.specs.World.{WorldAnswer, Stops, Gives, called, where_router, where_linked, world_answer}
use Rattle.world_core.specs.Views.{WorldView, plain_world, IsAt, IsWhole, Answers}

abbrev pub view_of : State → WorldView
view_of s = record {
  net = s.network.now;
  routers = s.routers.items;
  inboxes = s.inboxes.items;
  collector = s.collector;
  board = s.board;
  run = s.run.items;
}

-- a call leaves a whole world of the same network, of which something holds
pub record Leaves (Holds : Type 0) (x y : WorldView) : Type 0 where
  pub answers : Holds
  pub whole : IsWhole y
  pub same : y.net ≡ x.net

abbrev pub StepsTo : Result Stepped StepFault → WorldView → Event → WorldView → Type 0
StepsTo r x event y = Leaves (Answers r x event y) x y

-- a call that touches no pipe
abbrev pub IsOwn : Call → Type 0
IsOwn (Put v) = ⊥
IsOwn (Take v stamp what) = ⊥
IsOwn _ = Unit {0}

abbrev pub Asks : Result Stepped StepFault → WorldView → ℕ → Event → Call → WorldView → Type 0
Asks r x u event call y =
    (g : Setting) → g.net ≡ x.net → ChoosesByRank g → Gives g r (where_router g u (called g (plain_world x) u call)) (plain_world x) event (plain_world y)

-- the router, and the inbox of the pipes to it, stand at that place of a whole world
pub record StandsAt (x : WorldView) (u i : ℕ) : Type 0 where
  pub whole : IsWhole x
  pub router : IsAt (λ r. r.number) x.routers u i
  pub inbox : IsAt (λ b. b.router) x.inboxes u i
  pub known : (g : Setting) → g.net ≡ x.net → is_router g u ≡ true

abbrev pub IsPlaceOf : Result ℕ StepFault → WorldView → ℕ → Type 0
IsPlaceOf r x u =
    MatchResult r (StandsAt x u) (λ why. (why ≡ NoSuchRouter) × ((g : Setting) → g.net ≡ x.net → is_router g u ≡ false))

-- the router stands at that place, and the pipe from a linked peer at this one
pub record LinkAt (x : WorldView) (u v i k : ℕ) : Type 0 where
  pub here : StandsAt x u i
  pub pipe : (b : Inbox) → IsAt (λ p. p.peer) (get_or x.inboxes i b).pipes.items v k
  pub linked : (g : Setting) → g.net ≡ x.net → (a : WorldAnswer) → where_linked g u v a ≡ a

abbrev pub FindsLink : Result (ℕ × ℕ) StepFault → WorldView → ℕ → ℕ → Type 0
FindsLink r x u v =
    MatchResult r (λ p. LinkAt x u v p.0 p.1) (λ why. (g : Setting) → g.net ≡ x.net → (a : WorldAnswer) → where_linked g u v a ≡ Stops why)

-- the router of an event stands at that place of the network, and the peer, if it names one, at this one among its peers
abbrev pub IsPlaced : Plan → Event → ℕ → ℕ → Type 0
IsPlaced net event i k =
    (slice_get (numbers net.routers) i ≡ Some (router_of event)) × IfSome (peer_of event) (λ v. slice_get (peers net (router_of event)) k ≡ Some v)

-- the places of an event, or why it is refused
abbrev pub FindsPlaces : Result (ℕ × ℕ) StepFault → WorldView → Event → Type 0
FindsPlaces r x event =
    MatchResult r (λ p. IsPlaced x.net event p.0 p.1) (λ why. (g : Setting) → g.net ≡ x.net → world_answer g (plain_world x) event ≡ Stops why)

-- ---- what is at rest

-- nothing has to be put, taken or handled between the two: each of the three events finds nothing to do
pub record LinkIsIdle (x : WorldView) (u v : ℕ) : Type 0 where
  pub put : Answers (Ok stepped.Nothing) x (schedule.Put u v) x
  pub take : Answers (Ok stepped.Nothing) x (schedule.Take u v) x
  pub handle : Answers (Ok stepped.Nothing) x (schedule.Handle u v) x

-- the router has nothing to do alone: each of the three events finds nothing to do
pub record IsIdle (x : WorldView) (u : ℕ) : Type 0 where
  pub decide : Answers (Ok stepped.Nothing) x (schedule.Decide u) x
  pub advertise : Answers (Ok stepped.Nothing) x (schedule.Advertise u) x
  pub offer : Answers (Ok stepped.Nothing) x (schedule.Offer u) x
