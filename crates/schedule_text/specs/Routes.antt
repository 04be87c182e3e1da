-- The routes that are printed: those that routers keep, and those that they recorded in snapshots.
use Rattle.std.specs.Prelude.{ℕ, ◌≡◌, ◌<◌, ◌↔◌, true, List, [], Option, None, Some}
use Rattle.std.specs.List.{flat_map, AllPairs, Contains}
use Rattle.prefix_lanes.specs.Bits.{PrefixView}
use Rattle.ranked_policy.specs.Plans.{Plan}
use Rattle.ranked_policy.specs.declared.network.Origin.{Origin}
use Rattle.run_model.specs.Offers.{Outcome}
use Rattle.snap_marker.specs.Recordings.{RouterPart, MadeOffer}
use Rattle.snap_collector.specs.Verdicts.{Member, decides, verdict}
use Rattle.snap_collector.specs.Collector.{kept_of}
use Rattle.snap_collector.specs.Flights.{part_in}
use Rattle.world_core.specs.World.{World}
use Rattle.world_core.specs.Verdicts.{members_of}
use Rattle.schedule_text.specs.Reports.{route_line}

-- ---- routes

-- the path that a router keeps for the prefix of each origin
abbrev pub router_text : (PrefixView → List ℕ) → ℕ → List Origin → List ℕ
router_text kept u origins = flat_map (λ o. route_line u o.prefix (kept o.prefix)) origins

-- the routes of all routers, by rising number, then by address, then by length
abbrev pub routes_text : Plan → World → List ℕ
routes_text net w = flat_map (λ r. router_text (w.routers r.asn).router.kept r.asn net.origins) net.routers

-- ---- snapshots

-- the part that a router recorded: its first among these offers
abbrev pub recorded : List MadeOffer → ℕ → Option RouterPart
recorded offers u = part_in offers u

-- the path that a router recorded for the prefix of each origin
abbrev pub part_text : List Origin → ℕ → Option RouterPart → List ℕ
part_text origins u None = []
part_text origins u (Some part) = router_text part.kept u origins

abbrev pub parts_text : Plan → List MadeOffer → List ℕ
parts_text net offers = flat_map (λ r. part_text net.origins r.asn (recorded offers r.asn)) net.routers

-- the offers that decide a snapshot, and how it comes out by them
abbrev pub deciding : Plan → (ℕ → List MadeOffer) → ℕ → List MadeOffer
deciding net made s = kept_of (members_of net) (made s)

abbrev pub outcome : Plan → (ℕ → List MadeOffer) → ℕ → Outcome
outcome net made s = verdict (members_of net) (deciding net made s)

-- the numbers whose offers decide their snapshot, rising
pub record AreDecided (members : List Member) (made : ℕ → List MadeOffer) (decided : List ℕ) : Type 0 where
  pub rising : AllPairs (λ s t. s < t) decided
  pub exact : (s : ℕ) → Contains decided s ↔ (decides members (made s) ≡ true)
