-- Whole schedules of two routers, played: the routes that they end with, and what they offer.
use Rattle.std.specs.Prelude.{ℕ, ◌-◌, ◌≡◌, ◌==◌, Bool, false, cond, List, [], ◌∷◌, ◌++◌, length, Option, None, Some, Ok, Err}
use Rattle.run_model.specs.Offers.{Finished, Lost, Cause, Closed, Superseded}
use Rattle.router_model.specs.declared.command.Command.TheVariants as command
use Rattle.snap_marker.specs.Recordings.{RouterOffer, MadeOffer}
use Rattle.router_model.specs.declared.refusal.RouterError.TheVariants as error
use Rattle.world_core.specs.declared.schedule.Event.{Event}
use Rattle.world_core.specs.declared.schedule.Event.TheVariants as schedule
use Rattle.world_core.specs.declared.schedule.Order.TheVariants as order
use Rattle.world_core.specs.declared.schedule.StepFault.TheVariants.{Refused}
use Rattle.world_core.specs.declared.schedule.PlayFault.{PlayFault}
use Rattle.world_core.specs.Orders.{events_of}
use Rattle.world_core.specs.World.{World, Played, played, new_world}
use Rattle.router_model.specs.Examples.{p, pair, setting, fresh, greatest_shut}

abbrev pub rounds : ℕ → List Event
rounds n = events_of pair (order.Rounds n)

-- both start, and router 1 originates
abbrev pub schedule_a : List Event
schedule_a = schedule.Command 1 (command.Start 2) ∷ schedule.Command 2 (command.Start 1) ∷ schedule.Command 1 (command.Originate p) ∷ rounds 40

-- how many events were done, the two routes, and what was offered
pub record Ends : Type 0 where
  pub events : ℕ
  pub first : List ℕ
  pub second : List ℕ

abbrev pub ends_of : Played → Option Ends
ends_of (Err fault) = None
ends_of (Ok w) = Some (record { events = length w.run; first = (w.routers 1).router.kept p; second = (w.routers 2).router.kept p })

abbrev pub play : List Event → Option Ends
play events = ends_of (played setting (new_world setting) 0 events)

abbrev pub routed : ℕ → Option Ends
routed n = Some (record { events = n; first = 1 ∷ []; second = 2 ∷ 1 ∷ [] })

abbrev pub RoutesArrive : Type 0
RoutesArrive = play schedule_a ≡ routed 29

-- how many UPDATEs router 2 acted on in incarnations 1 and 2
abbrev pub acted_of : Played → List ℕ
acted_of (Err fault) = []
acted_of (Ok w) = length (((w.routers 2).router.sides 1).acted 1) ∷ length (((w.routers 2).router.sides 1).acted 2) ∷ []

-- a reset and a start: the session is up again, and the routes are back
abbrev pub resets : List Event
resets = schedule_a ++ schedule.Command 2 (command.Reset 1) ∷ rounds 5 ++ schedule.Command 1 (command.Start 2) ∷ rounds 40

abbrev pub second_routes : Option Ends → List ℕ
second_routes None = []
second_routes (Some e) = e.second

abbrev pub RoutesComeBack : Type 0
RoutesComeBack =
    (second_routes (play resets) ≡ 2 ∷ 1 ∷ []) × (acted_of (played setting (new_world setting) 0 resets) ≡ 1 ∷ 1 ∷ [])

-- what was offered: by whom, for which number, and how it ended; a part by its pending flag and how much is in its channel
pub data Said : Type 0 where
  WasWhole : (router number : ℕ) (pending : Bool) (in_flight : ℕ) → Said
  WasLost : (router number peer incarnation : ℕ) (cause : Cause) → Said

abbrev pub said_of : ℕ → RouterOffer → Said
said_of u (Finished s part) = WasWhole u s part.pending (length (part.channel (3 - u)))
said_of u (Lost s v e cause) = WasLost u s v e cause

abbrev pub all_said : List MadeOffer → List Said
all_said [] = []
all_said (m ∷ ms) = said_of m.router m.offer ∷ all_said ms

-- what was offered for one snapshot
abbrev pub offered_by : ℕ → Played → List Said
offered_by s (Err fault) = []
offered_by s (Ok w) = all_said (w.made s)

abbrev pub offers_of : ℕ → List Event → List Said
offers_of s events = offered_by s (played setting (new_world setting) 0 events)

-- a snapshot at rest: both parts, nothing pending, nothing in flight
abbrev pub RestIsRecorded : Type 0
RestIsRecorded =
    (play (schedule_a ++ schedule.Command 1 (command.Snapshot 1) ∷ rounds 10) ≡ routed 36)
    × (offers_of 1 (schedule_a ++ schedule.Command 1 (command.Snapshot 1) ∷ rounds 10)
    ≡ WasWhole 2 1 false 0 ∷ WasWhole 1 1 false 0 ∷ [])

-- a withdrawal in flight as both record
abbrev pub FlightIsRecorded : Type 0
FlightIsRecorded =
    offers_of 1 (schedule_a ++ schedule.Command 1 (command.Withdraw p) ∷ schedule.Decide 1 ∷ schedule.Advertise 1 ∷ schedule.Command 1 (command.Snapshot 1) ∷ schedule.Command 2 (command.Snapshot 1) ∷ rounds 10)
    ≡ WasWhole 1 1 false 0 ∷ WasWhole 2 1 false 1 ∷ []

-- a reset in the window, and a greater number
abbrev pub CloseIsRecorded : Type 0
CloseIsRecorded =
    offers_of 1 (schedule_a ++ schedule.Command 1 (command.Snapshot 1) ∷ schedule.Command 2 (command.Reset 1) ∷ rounds 5)
    ≡ WasLost 1 1 2 1 Closed ∷ []

abbrev pub GreaterSupersedes : Type 0
GreaterSupersedes =
    (offers_of 1 (schedule_a ++ schedule.Command 1 (command.Snapshot 1) ∷ schedule.Command 1 (command.Snapshot 2) ∷ rounds 10)
    ≡ WasLost 1 1 2 1 Superseded ∷ WasWhole 2 1 false 0 ∷ [])
    × (offers_of 2 (schedule_a ++ schedule.Command 1 (command.Snapshot 1) ∷ schedule.Command 1 (command.Snapshot 2) ∷ rounds 10)
    ≡ WasWhole 2 2 false 0 ∷ WasWhole 1 2 false 0 ∷ [])

-- an order that is refused in its middle: router 1 has no incarnation left, and the 120th tick of the session with router 2
-- would dial one; the ticks before it stay done
abbrev pub no_incarnation_left : World
no_incarnation_left = record (new_world setting) { routers = λ u. cond (u == 1) greatest_shut (fresh u) }

abbrev pub fault_of : Played → Option PlayFault
fault_of (Ok w) = None
fault_of (Err fault) = Some fault

abbrev pub events_done : Played → ℕ
events_done (Ok w) = length w.run
events_done (Err fault) = 0

abbrev pub ticked : ℕ → Played
ticked n = played setting no_incarnation_left 0 (events_of pair (order.Ticks n))

abbrev pub OrderStopsInItsMiddle : Type 0
OrderStopsInItsMiddle =
    (fault_of (ticked 200) ≡ Some (record { at = 238; why = Refused error.EpochEnd })) × (events_done (ticked 119) ≡ 238)
