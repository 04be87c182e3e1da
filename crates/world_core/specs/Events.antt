-- The router that does an event, and the peer that the event names.
use Rattle.std.specs.Prelude.{ℕ, Option, None, Some}
use Rattle.world_core.specs.declared.schedule.Event.{Event}
use Rattle.world_core.specs.declared.schedule.Event.TheVariants as schedule

abbrev pub router_of : Event → ℕ
router_of (schedule.Command u c) = u
router_of (schedule.Tick u) = u
router_of (schedule.Put u v) = u
router_of (schedule.Take u v) = u
router_of (schedule.Handle u v) = u
router_of (schedule.Decide u) = u
router_of (schedule.Advertise u) = u
router_of (schedule.Offer u) = u

abbrev pub peer_of : Event → Option ℕ
peer_of (schedule.Command u c) = None
peer_of (schedule.Tick u) = None
peer_of (schedule.Put u v) = Some v
peer_of (schedule.Take u v) = Some v
peer_of (schedule.Handle u v) = Some v
peer_of (schedule.Decide u) = None
peer_of (schedule.Advertise u) = None
peer_of (schedule.Offer u) = None
