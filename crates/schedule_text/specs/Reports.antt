-- The lines that a run is reported by.
use Rattle.std.specs.Prelude.{ℕ, List, [], ◌++◌, codes, decimal}
use Rattle.prefix_lanes.specs.Bits.{PrefixView}
use Rattle.net_text.specs.Printing.{line, prefix_text, numbers_text, refused_line}
use Rattle.router_model.specs.declared.refusal.RouterError.{RouterError}
use Rattle.router_model.specs.declared.refusal.RouterError.TheVariants as error
use Rattle.run_model.specs.Offers.{Cause, NotUp, Closed, Superseded, Why, Pending, InFlight, Mismatch, Outcome, Waiting, Abandoned, Moving, Settled}
use Rattle.world_core.specs.declared.schedule.StepFault.{StepFault}
use Rattle.world_core.specs.declared.schedule.StepFault.TheVariants as fault

-- ---- snapshots

abbrev pub why_text : Why → List ℕ
why_text Pending = codes "pending"
why_text (InFlight v) = codes "inflight " ++ decimal v
why_text (Mismatch v) = codes "mismatch " ++ decimal v

abbrev pub cause_text : Cause → List ℕ
cause_text NotUp = codes "notup"
cause_text Closed = codes "closed"
cause_text Superseded = codes "superseded"

-- how a snapshot came out: the router that is moving, and why; or the router and the peer by which it was abandoned,
-- and why
abbrev pub outcome_text : Outcome → List ℕ
outcome_text Waiting = []
outcome_text (Abandoned u v e c) = codes "abandoned " ++ (decimal u ++ (codes " " ++ (decimal v ++ (codes " " ++ cause_text c))))
outcome_text (Moving u w) = codes "moving " ++ (decimal u ++ (codes " " ++ why_text w))
outcome_text Settled = codes "settled"

unfoldable pub snapshot_text : ℕ → Outcome → List ℕ
snapshot_text s o = line (codes "snapshot " ++ (decimal s ++ (codes " " ++ outcome_text o)))

-- a snapshot that is undecided has no line
abbrev pub snapshot_line : ℕ → Outcome → List ℕ
snapshot_line s Waiting = []
snapshot_line s (Abandoned u v e c) = snapshot_text s (Abandoned u v e c)
snapshot_line s (Moving u w) = snapshot_text s (Moving u w)
snapshot_line s Settled = snapshot_text s Settled

-- ---- cuts

-- how many of all events were done up to the recordings of a snapshot
unfoldable pub cut_line : ℕ → ℕ → ℕ → List ℕ
cut_line s recorded events = line (codes "cut " ++ (decimal s ++ (codes " after " ++ (decimal recorded ++ (codes " of " ++ decimal events)))))

-- the line of a snapshot that has no cut
unfoldable pub cut_none_line : ℕ → List ℕ
cut_none_line s = line (codes "cut " ++ (decimal s ++ codes " none"))

-- ---- routes

-- the line of the path of a router for a prefix
unfoldable pub route_line : ℕ → PrefixView → List ℕ → List ℕ
route_line u q path = line (codes "route " ++ (decimal u ++ (prefix_text q ++ (codes " " ++ numbers_text path))))

-- the line before the routes at the end
abbrev pub now_line : List ℕ
now_line = line (codes "now")

-- ---- refusals

abbrev pub router_code : RouterError → List ℕ
router_code error.NoSuchPeer = codes "E1"
router_code error.NotOrigin = codes "E2"
router_code (error.OldSnapshot last) = codes "E3"
router_code (error.Blocked v) = codes "E4"
router_code (error.Held v) = codes "E5"
router_code error.StampEnd = codes "E6"
router_code error.Memory = codes "E7"
router_code error.EpochEnd = codes "E8"

abbrev pub fault_code : StepFault → List ℕ
fault_code fault.NoSuchRouter = codes "V1"
fault_code fault.NoSuchLink = codes "V2"
fault_code (fault.Refused e) = router_code e
fault_code fault.Memory = codes "V4"

-- the line that says that the order of a line was refused
abbrev pub stop_line : ℕ → StepFault → List ℕ
stop_line at why = refused_line at (fault_code why)
