-- The world that the orders of a schedule lead to.
use Rattle.std.specs.Prelude.{◌≡◌, ℕ, List, ◌∷◌, ◌++◌, Ok}
use Rattle.std.specs.List.{flat_map}
use Rattle.ranked_policy.specs.Plans.{Plan}
use Rattle.router_model.specs.Settings.{Setting}
use Rattle.world_core.specs.declared.schedule.Event.{Event}
use Rattle.world_core.specs.World.{World, played}
use Rattle.world_core.specs.Orders.{events_of, StopsAt}
use Rattle.schedule_text.specs.declared.report.RefusedOrder.{RefusedOrder}
use Rattle.schedule_text.specs.declared.schedule.ScheduledOrder.{ScheduledOrder}

-- the events that orders stand for, one after the other
abbrev pub all_events : Plan → List ScheduledOrder → List Event
all_events net orders = flat_map (λ o. events_of net o.order) orders

-- all events of the orders are done, and lead from one world to the other
abbrev pub LeadTo : Setting → World → List ScheduledOrder → World → Type 0
LeadTo g w orders y = played g w 0 (all_events g.net orders) ≡ Ok y

-- the first order that is refused, since one of its events is; all before it are done
pub record IsFirstRefused (g : Setting) (w : World) (orders : List ScheduledOrder) (stop : RefusedOrder) : Type 0 where
  pub before : List ScheduledOrder
  pub order : ScheduledOrder
  pub behind : List ScheduledOrder
  pub reached : World
  pub left : World
  pub at : ℕ
  pub parts : orders ≡ before ++ order ∷ behind
  pub stands : order.line ≡ stop.line
  pub done : LeadTo g w before reached
  pub stops : StopsAt g reached (events_of g.net order.order) at stop.why left
