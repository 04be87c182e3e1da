-- The routers of a network with the pipes between them and the offers that they made: what each event of a schedule answers and
-- leaves, and what holds of every world that was played.
use Rattle.std.specs.Prelude.{ℕ, ◌+◌, ◌≡◌, ◌==◌, max, nat_lt, ◌&&◌, cond, List, [], ◌∷◌, ◌++◌, map, drop, filter, Option, None, Some, Result, Ok, Err, MatchResult, slice_get}
use Rattle.snap_collector.specs.Collector.{is_for}
use Rattle.ranked_policy.specs.Plans.{IsRouter}
use Rattle.run_model.specs.Network as runs
use Rattle.run_model.specs.Network.{NetworkEvent, alone, puts, takes, offers}
use Rattle.outbox.specs.declared.item.Item.{Item}
use Rattle.snap_marker.specs.Recordings.{RouterOffer, MadeOffer}
use Rattle.router_model.specs.declared.refusal.RouterError.{RouterError}
use Rattle.router_model.specs.declared.refusal.RouterError.TheVariants as error
use Rattle.router_model.specs.declared.refusal.Stepped.{Stepped}
use Rattle.router_model.specs.declared.refusal.Stepped.TheVariants as stepped
use Rattle.router_model.specs.Settings.{Setting, linked, is_router}
use Rattle.router_model.specs.State.{new_router}
use Rattle.router_model.specs.Step.{Own, RouterEvent, after, next_offer}
use Rattle.router_model.specs.Step as step
use Rattle.router_model.specs.Calls.{Stamped, Call, Obey, Tick, Put, Take, Handle, Decide, Advertise, Answer, Steps, Refuses, answer, stamp_of}
use Rattle.run_model.specs.declared.stamps.TheConstants.{GREATEST_STAMP}
use Rattle.router_model.specs.Calls as calls
use Rattle.router_runs.specs.Runs.{RunOrder, RunState, IsRunTo}
use Rattle.world_core.specs.declared.schedule.Event.{Event}
use Rattle.world_core.specs.declared.schedule.Event.TheVariants as schedule
use Rattle.world_core.specs.declared.schedule.StepFault.{StepFault}
use Rattle.world_core.specs.declared.schedule.StepFault.TheVariants.{NoSuchRouter, NoSuchLink, Refused, Memory}
use Rattle.world_core.specs.declared.schedule.PlayFault.{PlayFault}

pub record World : Type 0 where
  pub routers : ℕ → Stamped
  pub pipes : ℕ → ℕ → List Item  -- put by one router towards another and not taken, each with the stamp of its put
  pub made : ℕ → List MadeOffer  -- the offers made for a snapshot, in their order
  pub board : ℕ  -- the stamp of the last
  pub run : List Event  -- the events that were done

-- a world in which nothing was done
abbrev pub new_world : Setting → World
new_world g = record {
  routers = λ u. record { router = new_router g; stamp = 0 };
  pipes = λ u v. [];
  made = λ s. [];
  board = 0;
  run = [];
}

-- ---- what an event answers

-- a router does an event of its own, with this stamp; or there is nothing to do; or it is refused
pub data WorldAnswer : Type 0 where
  Does : (router : ℕ) (event : RouterEvent) (stamp : ℕ) → WorldAnswer
  Nothing : WorldAnswer
  Stops : (fault : StepFault) → WorldAnswer

-- full outboxes, and a message that waits to be handled, count as nothing to do in a world
abbrev pub refused_by : RouterError → WorldAnswer
refused_by error.NoSuchPeer = Stops (Refused error.NoSuchPeer)
refused_by error.NotOrigin = Stops (Refused error.NotOrigin)
refused_by (error.OldSnapshot last) = Stops (Refused (error.OldSnapshot last))
refused_by (error.Blocked v) = Nothing
refused_by (error.Held v) = Nothing
refused_by error.StampEnd = Stops (Refused error.StampEnd)
refused_by error.EpochEnd = Stops (Refused error.EpochEnd)
refused_by error.Memory = Stops Memory

abbrev pub of_answer : ℕ → ℕ → Answer → WorldAnswer
of_answer u stamp (Steps e) = Does u e stamp
of_answer u stamp calls.Idle = Nothing
of_answer u stamp (Refuses why) = refused_by why

-- an offer is made if one waits
abbrev pub of_offer : ℕ → ℕ → Option RouterOffer → WorldAnswer
of_offer u stamp None = Nothing
of_offer u stamp (Some o) =
    cond (nat_lt GREATEST_STAMP stamp) (Stops (Refused error.StampEnd)) (Does u (offers (record { router = u; offer = o })) stamp)

-- the pipe from a to b after an event of router u
abbrev pub piped : ℕ → ℕ → RouterEvent → ℕ → ℕ → List Item → List Item
piped u stamp (puts v i) a b items = cond ((a == u) && (b == v)) (items ++ record { stamp = stamp; what = i } ∷ []) items
piped u stamp (takes v i) a b items = cond ((a == v) && (b == u)) (drop 1 items) items
piped u stamp (alone e) a b items = items
piped u stamp (offers made) a b items = items

-- offers join those for the same snapshot
abbrev pub joined : (ℕ → List MadeOffer) → List MadeOffer → ℕ → List MadeOffer
joined made more s = made s ++ filter (is_for s) more

-- the stamp of the last offer after an event
abbrev pub board_after : ℕ → RouterEvent → ℕ → ℕ
board_after stamp (offers made) board = stamp
board_after stamp (alone e) board = board
board_after stamp (puts v i) board = board
board_after stamp (takes v i) board = board

module _ (g : Setting) where
  -- the answer of a world, by the call of a router
  abbrev pub called : World → ℕ → Call → WorldAnswer
  called w u call = of_answer u (stamp_of g u (w.routers u) call) (answer g u (w.routers u) call)

  -- a take needs an item in the pipe
  abbrev pub taking_of : World → ℕ → ℕ → Option Item → WorldAnswer
  taking_of w u v None = Nothing
  taking_of w u v (Some i) = called w u (Take v i.stamp i.what)

  -- the answer to an event of a router, and of two that a link joins
  abbrev pub where_router : ℕ → WorldAnswer → WorldAnswer
  where_router u a = cond (is_router g u) a (Stops NoSuchRouter)

  abbrev pub where_linked : ℕ → ℕ → WorldAnswer → WorldAnswer
  where_linked u v a = cond (is_router g u && is_router g v) (cond (linked g.net u v) a (Stops NoSuchLink)) (Stops NoSuchRouter)

  -- the stamp of an offer is one above the router's last and that of the last offer
  abbrev pub world_answer : World → Event → WorldAnswer
  world_answer w (schedule.Command u c) = where_router u (called w u (Obey c))
  world_answer w (schedule.Tick u) = where_router u (called w u Tick)
  world_answer w (schedule.Put u v) = where_linked u v (called w u (Put v))
  world_answer w (schedule.Take u v) = where_linked u v (taking_of w u v (slice_get (w.pipes v u) 0))
  world_answer w (schedule.Handle u v) = where_linked u v (called w u (Handle v))
  world_answer w (schedule.Decide u) = where_router u (called w u Decide)
  world_answer w (schedule.Advertise u) = where_router u (called w u Advertise)
  world_answer w (schedule.Offer u) = where_router u (of_offer u (max (w.routers u).stamp w.board + 1) (next_offer (w.routers u).router))

  -- the world after an event
  abbrev pub world_after : World → Event → ℕ → RouterEvent → ℕ → World
  world_after w event u e stamp = record {
    routers = λ y. cond (y == u) (record { router = after g u (w.routers u).router e; stamp = stamp }) (w.routers y);
    pipes = λ a b. piped u stamp e a b (w.pipes a b);
    made = joined w.made (runs.offered_by e);
    board = board_after stamp e w.board;
    run = w.run ++ event ∷ [];
  }

-- ---- schedules

-- a schedule is played event by event up to the first that is refused; its place counts from 0
abbrev pub Played : Type 0
Played = Result World PlayFault

-- one event: the world after it, or the fault
abbrev pub world_of : Setting → World → Event → ℕ → WorldAnswer → Played
world_of g w event at (Does u e stamp) = Ok (world_after g w event u e stamp)
world_of g w event at Nothing = Ok w
world_of g w event at (Stops fault) = Err (record { at = at; why = fault })

abbrev pub onward : Played → (World → Played) → Played
onward (Ok w) f = f w
onward (Err fault) f = Err fault

abbrev pub played : Setting → World → ℕ → List Event → Played
played g w at [] = Ok w
played g w at (event ∷ events) = onward (world_of g w event at (world_answer g w event)) (λ next. played g next (at + 1) events)

-- ---- what is played is a run

-- an event of a run, as a schedule names it
abbrev pub name_of : ℕ → RouterEvent → Event
name_of u (alone (step.Obeys c)) = schedule.Command u c
name_of u (alone step.Ticks) = schedule.Tick u
name_of u (alone (step.Handles v)) = schedule.Handle u v
name_of u (alone step.Decides) = schedule.Decide u
name_of u (alone (step.Advertises v)) = schedule.Advertise u
name_of u (puts v i) = schedule.Put u v
name_of u (takes v i) = schedule.Take u v
name_of u (offers made) = schedule.Offer u

abbrev pub named : RunOrder → List Event
named order = map (λ d. name_of d.router d.event) order

-- the last state of a run has all that the world holds
pub record AgreesWith (g : Setting) (w : World) (state : RunState) : Type 0 where
  pub routers : (u : ℕ) → IsRouter g.net.routers u → (w.routers u).router ≡ (state.routers u).router
  pub pipes : (u v : ℕ) → state.put u v ≡ state.taken u v ++ map (λ i. i.what) (w.pipes u v)
  pub offers_made : (s : ℕ) → w.made s ≡ filter (is_for s) state.offered

-- the events that were done are a run, and its last state agrees with all that the world holds
pub record IsRunOfWorld (g : Setting) (w : World) : Type 0 where
  pub order : RunOrder
  pub state : RunState
  pub run : IsRunTo g order state
  pub events : named order ≡ w.run
  pub agrees : AgreesWith g w state

-- a world comes out of its own events again, none of them refused; the new world does, and each step keeps it so
abbrev pub IsReplayed : Setting → World → Type 0
IsReplayed g w = played g (new_world g) 0 w.run ≡ Ok w

-- ---- the clauses of the calls

-- what a call that does one event has to give and to leave: want of memory is answered only if there is a step
abbrev pub Gives : Setting → Result Stepped StepFault → WorldAnswer → World → Event → World → Type 0
Gives g r (Does u e stamp) w event y =
    MatchResult r (λ s. (s ≡ stepped.Did) × (y ≡ world_after g w event u e stamp)) (λ why. (why ≡ Memory) × (y ≡ w))
Gives g r Nothing w event y = (r ≡ Ok stepped.Nothing) × (y ≡ w)
Gives g r (Stops fault) w event y = (r ≡ Err fault) × (y ≡ w)

abbrev pub IsStepped : Setting → Result Stepped StepFault → World → Event → World → Type 0
IsStepped g r w event y = Gives g r (world_answer g w event) w event y
