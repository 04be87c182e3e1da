-- The text printed of a world: how its snapshots came out, and the routes that its routers keep.
use Rattle.std.specs.Prelude.{ℕ, List, [], ◌++◌}
use Rattle.std.specs.List.{flat_map}
use Rattle.ranked_policy.specs.Plans.{Plan}
use Rattle.run_model.specs.Offers.{Outcome, Waiting, Abandoned, Moving, Settled}
use Rattle.snap_marker.specs.Recordings.{MadeOffer}
use Rattle.snap_collector.specs.Verdicts.{Member, verdict}
use Rattle.snap_collector.specs.Collector.{kept_of}
use Rattle.world_core.specs.World.{World}
use Rattle.schedule_text.specs.Reports.{snapshot_line, now_line}
use Rattle.schedule_text.specs.Routes.{routes_text, parts_text}

-- the line before the routes, and the routes
abbrev pub now_text : Plan → World → List ℕ
now_text net w = now_line ++ routes_text net w

-- ---- snapshots

-- the routes of a snapshot that is settled
abbrev pub settled_text : Plan → List MadeOffer → Outcome → List ℕ
settled_text net offers Settled = parts_text net offers
settled_text net offers Waiting = []
settled_text net offers (Moving u why) = []
settled_text net offers (Abandoned u v e cause) = []

-- how a snapshot came out by the offers that decide it, and its routes if it is settled
abbrev pub outcome_text : Plan → ℕ → List MadeOffer → Outcome → List ℕ
outcome_text net s offers outcome = snapshot_line s outcome ++ settled_text net offers outcome

abbrev pub snapshot_text : Plan → List Member → (ℕ → List MadeOffer) → ℕ → List ℕ
snapshot_text net members made s = outcome_text net s (kept_of members (made s)) (verdict members (kept_of members (made s)))

abbrev pub snapshots_text : Plan → List Member → (ℕ → List MadeOffer) → List ℕ → List ℕ
snapshots_text net members made numbers = flat_map (snapshot_text net members made) numbers
