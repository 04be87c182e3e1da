-- The orders of a schedule as the events that they stand for, and what a call that obeys one has to give.
use Rattle.std.specs.Prelude.{ℕ, zero, suc, ◌≡◌, List, [], ◌∷◌, ◌++◌, length, map, Result, Ok, Err, MatchResult}
use Rattle.std.specs.List.{flat_map}
use mathlib.Core.Logic.{◌⊎◌}
use Rattle.ranked_policy.specs.Plans.{Plan, numbers}
use Rattle.router_model.specs.Settings.{Setting, peers}
use Rattle.router_model.specs.Step.{RouterEvent}
use Rattle.world_core.specs.declared.schedule.Event.{Event}
use Rattle.world_core.specs.declared.schedule.Event.TheVariants as schedule
use Rattle.world_core.specs.declared.schedule.Order.{Order}
use Rattle.world_core.specs.declared.schedule.Order.TheVariants as order
use Rattle.world_core.specs.declared.schedule.StepFault.{StepFault}
use Rattle.world_core.specs.declared.schedule.StepFault.TheVariants.{Memory}
use Rattle.world_core.specs.World.{World, Does, Stops, Played, new_world, world_answer, played}

-- what a router tries with each peer in a turn, and a turn
abbrev pub with_peer : ℕ → ℕ → List Event
with_peer u v = schedule.Put u v ∷ schedule.Take u v ∷ schedule.Handle u v ∷ []

abbrev pub turn : Plan → ℕ → List Event
turn net u = flat_map (with_peer u) (peers net u) ++ schedule.Decide u ∷ schedule.Advertise u ∷ schedule.Offer u ∷ []

-- each router, rising
abbrev pub round : Plan → List Event
round net = flat_map (turn net) (numbers net.routers)

abbrev pub second : Plan → List Event
second net = map (λ u. schedule.Tick u) (numbers net.routers)

abbrev pub repeated : ℕ → List Event → List Event
repeated zero events = []
repeated (suc n) events = events ++ repeated n events

abbrev pub events_of : Plan → Order → List Event
events_of net (order.One event) = event ∷ []
events_of net (order.Rounds n) = repeated n (round net)
events_of net (order.Ticks n) = repeated n (second net)

-- ---- what stops a list of events

-- the event is refused for this cause, or is a step that wants memory
abbrev pub IsRefused : Setting → World → Event → StepFault → Type 0
IsRefused g w event why =
    (world_answer g w event ≡ Stops why)
    ⊎ ((u stamp : ℕ) × (e : RouterEvent) × (why ≡ Memory) × (world_answer g w event ≡ Does u e stamp))

-- the events before this place are played, from w to y, and the event there is refused
pub record StopsAt (g : Setting) (w : World) (events : List Event) (at : ℕ) (why : StepFault) (y : World) : Type 0 where
  pub before : List Event
  pub event : Event
  pub behind : List Event
  pub parts : events ≡ before ++ event ∷ behind
  pub place : length before ≡ at
  pub reached : played g w 0 before ≡ Ok y
  pub refused : IsRefused g y event why

-- what a call that obeys an order has to give and to leave: the events before the first that is refused stay done
abbrev pub IsObeyed : Setting → World → List Event → Result (Unit {0}) StepFault → World → Type 0
IsObeyed g w events r y = MatchResult r (λ _. played g w 0 events ≡ Ok y) (λ why. (at : ℕ) × StopsAt g w events at why y)

-- what a call that plays a schedule has to answer: the world that the schedule leads to, or the place and the cause of
-- the first refusal; want of memory at the opening has place 0
abbrev pub IsPlayed : Setting → List Event → Played → Type 0
IsPlayed g events (Ok w) = played g (new_world g) 0 events ≡ Ok w
IsPlayed g events (Err fault) =
    ((fault.at ≡ 0) × (fault.why ≡ Memory)) ⊎ ((w : World) × StopsAt g (new_world g) events fault.at fault.why w)
